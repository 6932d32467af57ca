-- The bound of weights, by weak duality.
use Rattle.std.proofs.Common.{◌≡◌, ℕ, ◌*◌, ◌<◌, ◌≤◌, List, [], length, get_or, sum, refl, sym, ap, ap₂, subst, arith}
use Rattle.std.proofs.Math.Nat.{div-le_self, eq_of_mul-eq-mul_left, mul-le-mul_left, mul-le-mul_right, le_of_mul-le-mul_right}
use Rattle.divisor.specs.Gcd.{gcd_of, lowest_terms}
use Rattle.divisor.proofs.GcdLemmas.{lowest_terms-exact, lowest_terms-same, lowest_terms-some}
use Rattle.numbers.specs.Sums.{sum_below}
use Rattle.numbers.proofs.CountLemmas.{least_of-le}
use Rattle.numbers.proofs.SumsBelow.{sum_below-cross, sum_below-le, sum_below-list}
use Rattle.quorum_set.specs.Coteries.{QuorumSystem}
use Rattle.quorum_set.specs.Counts.{count_of}
use Rattle.certificate.specs.Bounds.{BearsBound, IsBounded, bound_of}
use Rattle.certificate.specs.Certificates.{Weighted, AreSums, AreWeights, IsCertificate, capacity_total, cycle_count, cycle_len, cycle_ratio, lightest_quorum, load_of, voter_total, with_weights}
use Rattle.certificate.specs.declared.sums.Sums.{Sums}
use Rattle.certificate.specs.Loads.{weight_within}
use Rattle.certificate.specs.Ratios.{IsAtMost, greatest_ratio}
use Rattle.certificate.proofs.Duality.{Bears, Bears-cycle, Bears-list}
use Rattle.certificate.proofs.Optimal.{capacity_total-some}
use Rattle.certificate.proofs.RatioLemmas.{AreWeights-certificate, IsCertificate-balanced, IsAtMost-trans, greatest_ratio-bound, greatest_ratio-reached, greatest_ratio-some, load_of-some}

-- x * q ≤ p * t and k * q ≡ p * c give x * c ≤ k * t
mul-le_reached : (x p q c t k : ℕ) → 0 < q → x * q ≤ p * t → k * q ≡ p * c → x * c ≤ k * t
mul-le_reached x p q c t k some low equal =
    let one : x * q * c ≤ p * t * c = mul-le-mul_right c low in
    let same : k * q * t ≡ p * c * t = ap (λ y. y * t) equal in
    le_of_mul-le-mul_right {k = q} (omega (arith, one, same)) some

-- fractions in lowest terms compare as they did before
IsAtMost-lowest : (x y p d : ℕ) → 0 < y → 0 < d → x * d ≤ p * y → IsAtMost (lowest_terms x y) (lowest_terms p d)
IsAtMost-lowest x y p d some_y some_d le =
    let low : IsAtMost (lowest_terms x y) (x, y) = omega (arith, lowest_terms-exact x y) in
    let high : IsAtMost (p, d) (lowest_terms p d) = omega (arith, lowest_terms-exact p d) in
    let middle : IsAtMost (lowest_terms x y) (p, d) = IsAtMost-trans (lowest_terms x y) (x, y) (p, d) some_y low le in
    IsAtMost-trans (lowest_terms x y) (p, d) (lowest_terms p d) some_d middle high

-- quotients that are the same in lowest terms
lowest_terms-cross : (a b c d : ℕ) → 0 < b → lowest_terms a b ≡ lowest_terms c d → a * d ≡ c * b
lowest_terms-cross a b c d some same =
    let r = lowest_terms a b in
    let s = lowest_terms c d in
    let one : r.0 * b * d ≡ a * r.1 * d = ap (λ x. x * d) (lowest_terms-exact a b) in
    let two : s.0 * d * b ≡ c * s.1 * b = ap (λ x. x * b) (lowest_terms-exact c d) in
    let tops : r.0 * b * d ≡ s.0 * b * d = ap (λ (x : ℕ × ℕ). x.0 * b * d) same in
    let bottoms : c * r.1 * b ≡ c * s.1 * b = ap (λ (x : ℕ × ℕ). c * x.1 * b) same in
    eq_of_mul-eq-mul_left r.1 (lowest_terms-some a b some) (a * d) (c * b) (omega (arith, one, two, tops, bottoms))

module _ (w : Weighted) (h : AreWeights w) where
  -- the quorums have this number of uses in all
  module _ (uses : ℕ) (count : ℕ → ℕ) (bears : Bears w.system.voters w.system.quorums uses count) where
    abbrev ratio : ℕ × ℕ
    ratio = greatest_ratio w.system.voters w.capacities count

    pub ratio_bound : uses * lightest_quorum w * ratio.1 ≤ ratio.0 * capacity_total w
    ratio_bound =
        let weight : ℕ → ℕ = λ i. get_or w.voter_weights i 0 in
        let low = bears weight (lightest_quorum w) (λ j lt. least_of-le (weight_within w.voter_weights) w.system.quorums j [] lt) in
        let scaled : uses * lightest_quorum w * ratio.1 ≤ sum_below (λ i. weight i * count i) w.system.voters * ratio.1 = mul-le-mul_right ratio.1 low in
        let high = sum_below-cross w.system.voters ratio.0 ratio.1 weight count (λ i. get_or w.capacities i 0)
        (greatest_ratio-bound w.system.voters w.capacities count h.capacities) in
        omega (arith, scaled, high)

    pub voter_bound : (i : ℕ) × (i < w.system.voters) × (uses * lightest_quorum w * get_or w.capacities i 0 ≤ count i * capacity_total w)
    voter_bound =
        let found = greatest_ratio-reached w.system.voters w.capacities count h.capacities h.coterie.some_voter in (
          found.0,
          found.1,
          mul-le_reached (uses * lightest_quorum w) ratio.0 ratio.1 (get_or w.capacities found.0 0) (capacity_total w) (count found.0)
              (greatest_ratio-some w.system.voters w.capacities count h.capacities) ratio_bound found.2,
        )

  pub BearsBound-weights : BearsBound w
  BearsBound-weights list small = voter_bound (length list) (λ i. count_of w.system i list) (Bears-list w.system list h.coterie small)

  -- weights of the same coterie and capacities
  load_bound : (weights others : List ℕ) → length weights ≡ length w.system.quorums → 0 < sum weights
      → IsAtMost (bound_of w) (load_of (with_weights w.system w.capacities weights others))
  load_bound weights others long some =
      let v = with_weights w.system w.capacities weights others in
      let r = cycle_ratio v in
      let bound = ratio_bound (cycle_len v) (cycle_count v) (Bears-cycle w.system weights h.coterie long) in
      let positive = greatest_ratio-some w.system.voters w.capacities (cycle_count v) h.capacities in
      let more : r.1 * 1 ≤ r.1 * cycle_len v = mul-le-mul_left r.1 some in
      IsAtMost-lowest (lightest_quorum w) (capacity_total w) r.0 (r.1 * cycle_len v) (capacity_total-some w h) (omega (arith, more, positive)) (omega (arith, bound))

  pub IsBounded-weights : IsBounded w
  IsBounded-weights v rival =
      let Holds : QuorumSystem → List ℕ → Type 0 = λ s capacities. length v.quorum_weights ≡ length s.quorums
      → IsAtMost (bound_of w) (load_of (with_weights s capacities v.quorum_weights v.voter_weights)) in
      let own : Holds w.system w.capacities = λ long. load_bound v.quorum_weights v.voter_weights long rival.some_quorum in
      subst (λ s. Holds s v.capacities) (sym rival.system) (subst (λ cs. Holds w.system cs) (sym rival.capacities) own) rival.quorums

  pub load-above : IsAtMost (bound_of w) (load_of w)
  load-above = IsBounded-weights w (record { system = refl; capacities = refl; quorums = h.quorums; some_quorum = h.some_quorum })

  pub IsCertificate-weights : load_of w ≡ bound_of w → IsCertificate w
  IsCertificate-weights same =
      let r = cycle_ratio w in
      let crossed = lowest_terms-cross r.0 (r.1 * cycle_len w) (lightest_quorum w) (capacity_total w) (load_of-some w h) same in
      IsCertificate-balanced w h (omega (arith, crossed))

pub bound_of-fits : (w : Weighted) (sums : Sums) → AreSums w sums → ((bound_of w).0 ≤ 64000000) × ((bound_of w).1 ≤ 1000000000)
bound_of-fits w sums are =
    let t = lightest_quorum w in
    let c = capacity_total w in
    (omega (arith, div-le_self t (gcd_of t c), are.lightest_quorum, are.small_quorum), omega (arith, div-le_self c (gcd_of t c), are.capacity_total, are.small_total))

-- the load of a certificate is the bound
pub bound_of-certificate : (w : Weighted) → IsCertificate w → load_of w ≡ bound_of w
bound_of-certificate w h =
    let are = AreWeights-certificate w h in
    lowest_terms-same (cycle_ratio w).0 ((cycle_ratio w).1 * cycle_len w) (lightest_quorum w) (capacity_total w) (load_of-some w are) (capacity_total-some w are)
    (omega (arith, h.balanced))
