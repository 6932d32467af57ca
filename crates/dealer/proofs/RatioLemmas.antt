-- The ratio of an account, and that no list of the same length has a smaller one.
use Rattle.std.proofs.Common.{◌≡◌, ℕ, ◌*◌, ◌<◌, ◌≤◌, List, length, get_or, sym, ap, subst, ◌∙◌, arith}
use Rattle.std.proofs.Math.Nat.{le_of_mul-le-mul_right}
use Rattle.divisor.proofs.GcdLemmas.{lowest_terms-exact}
use Rattle.certificate.specs.Certificates.{Weighted, IsCertificate, IsOptimal, cycle_len, cycle_ratio}
use Rattle.certificate.specs.Ratios.{IsAtMost, greatest_ratio, ratio_of}
use Rattle.certificate.proofs.Optimal.{IsOptimal-ratio_of}
use Rattle.certificate.proofs.RatioLemmas.{AreWeights-certificate, IsAtMost-trans, cycle_ratio-some, greatest_ratio-same}
use Rattle.dealer.specs.Accounts.{IsLeastRatio, ratio_of_cycles, values_below}
use Rattle.dealer.proofs.AccountLemmas.{length-values_below, get_or-values_below}

-- the ratio of a list of values
pub greatest_ratio-values : (n : ℕ) (capacities : List ℕ) (f : ℕ → ℕ) → greatest_ratio (length (values_below n f)) capacities (λ i. get_or (values_below n f) i 0) ≡ greatest_ratio n capacities f
greatest_ratio-values n capacities f =
    ap (λ m. greatest_ratio m capacities (λ i. get_or (values_below n f) i 0)) (length-values_below n f)
    ∙ greatest_ratio-same n capacities (λ i. get_or (values_below n f) i 0) f (get_or-values_below n f)

-- no list as long has a smaller ratio than k cycles of optimal weights
pub IsLeastRatio-cycles : (w : Weighted) (k n : ℕ) (r : ℕ × ℕ) → IsCertificate w → IsOptimal w → n ≡ k * cycle_len w → r ≡ ratio_of_cycles w k → IsLeastRatio w n r
IsLeastRatio-cycles w k n r is optimal long same list as_long within =
    let s = ratio_of w.system w.capacities list in
    let p = (cycle_ratio w).0 in
    let q = (cycle_ratio w).1 in
    subst (λ (r : ℕ × ℕ). IsAtMost r s) (sym same)
    (IsAtMost-trans (ratio_of_cycles w k) (k * p, q) s (cycle_ratio-some w (AreWeights-certificate w is)) (omega (arith, lowest_terms-exact (k * p) q))
    (scaled k (cycle_len w) (length list) p q s.0 s.1 is.some_quorum (as_long ∙ long) (IsOptimal-ratio_of w is.capacities optimal list within)))
  where
    scaled : (k d n p q x y : ℕ) → 0 < d → n ≡ k * d → n * p * y ≤ x * (q * d) → k * p * y ≤ x * q
    scaled k d n p q x y some long le =
        le_of_mul-le-mul_right {k = d} (omega (arith, ap (λ t. t * p * y) long, le)) some
