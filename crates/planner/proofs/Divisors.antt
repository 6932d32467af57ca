-- Weights that are divided by their greatest common divisor.
use Rattle.std.proofs.Common.{◌≡◌, ◌≢◌, ℕ, ◌+◌, ◌*◌, ◌/◌, ◌<◌, ◌≤◌, List, [], ◌∷◌, length, map, sum, get_or, zero, suc, sym, refl, subst, ap, ap₂, ◌∙◌, arith}
use Rattle.std.specs.List.{All}
use Rattle.std.specs.Int.{◌∣◌}
use Rattle.std.proofs.lemmas.List.{get_or-map, length-map}
use Rattle.std.proofs.lemmas.List.Elements.{All-head, All-tail}
use Rattle.std.proofs.lemmas.List.Sums.{sum_by-cons}
use Rattle.std.proofs.Math.Nat.{eq-zero_of_zero-dvd, mul-dvd-mul_left, mul-le-mul_right, dvd_of_mul-dvd-mul_left, mul-div_cancel', eq-one_of_dvd-one}
use Rattle.quorum_set.specs.Coteries.{QuorumSystem}
use Rattle.certificate.specs.Certificates.{Weighted, IsCertificate}
use Rattle.planner.specs.Uniform.{ones, all_ones}
use Rattle.planner.specs.Weights.{HaveNoCommonDivisor, IsGreatestDivisor}

-- numbers that 0 divides sum to 0
sum-zero_divides : (xs : List ℕ) → All (λ x. 0 ∣ x) xs → sum xs ≡ 0
sum-zero_divides [] h = refl
sum-zero_divides (x ∷ xs) h =
    let first = eq-zero_of_zero-dvd (All-head (λ x. 0 ∣ x) x xs h) in
    let rest = sum-zero_divides xs (All-tail (λ x. 0 ∣ x) x xs h) in
    omega (arith, first, rest, sum_by-cons (λ y. y) x xs)

-- numbers whose greatest common divisor is 0 have no sum above 0
pub HaveNoCommonDivisor-sum : (xs : List ℕ) (g : ℕ) → IsGreatestDivisor xs g → g ≡ 0 → 0 < sum xs → HaveNoCommonDivisor xs
HaveNoCommonDivisor-sum xs g is none some = let flat = sum-zero_divides xs (subst (λ d. All (λ x. d ∣ x) xs) none is.divides) in absurd (omega arith)

-- numbers that are divided by their greatest common divisor have none but 1
pub HaveNoCommonDivisor-divided : (xs ys : List ℕ) (g : ℕ) → IsGreatestDivisor xs g → g ≢ 0 → ys ≡ map (λ x. x / g) xs → HaveNoCommonDivisor ys
HaveNoCommonDivisor-divided xs ys g is some e = λ d all.
    let whole : g * d ∣ g * 1 = subst (λ n. g * d ∣ n) (sym (times_one g)) (is.greatest (g * d) (λ j x lt.
    let at : get_or ys j x ≡ get_or xs j x / g = ap (λ zs. get_or zs j x) e ∙ get_or-map (λ y. y / g) xs j x x lt in
    let long : length ys ≡ length xs = ap length e ∙ length-map xs (λ y. y / g) in
    let quotient : d ∣ get_or xs j x / g = subst (λ n. d ∣ n) at (all j x (omega arith)) in
    subst (λ n. g * d ∣ n) (mul-div_cancel' g (is.divides j x lt)) (mul-dvd-mul_left d g quotient))) in
    eq-one_of_dvd-one (dvd_of_mul-dvd-mul_left d (omega arith) whole)
  where
    times_one : (g : ℕ) → g * 1 ≡ g
    times_one g = omega arith

-- Numbers and their quotients

-- each number is the divisor times its quotient
pub divided-times : (xs : List ℕ) (g : ℕ) → All (λ x. g ∣ x) xs → xs ≡ map (λ y. g * y) (map (λ x. x / g) xs)
divided-times [] g all = refl
divided-times (x ∷ xs) g all =
    ap₂ (λ (y : ℕ) (ys : List ℕ). y ∷ ys) (sym (mul-div_cancel' g (All-head (λ y. g ∣ y) x xs all))) (divided-times xs g (All-tail (λ y. g ∣ y) x xs all))

pub times-one : (xs : List ℕ) → xs ≡ map (λ x. 1 * x) xs
times-one [] = refl
times-one (x ∷ xs) = ap₂ (λ (y : ℕ) (ys : List ℕ). y ∷ ys) (omega arith) (times-one xs)

sum-times : (g : ℕ) (xs : List ℕ) → sum (map (λ x. g * x) xs) ≡ g * sum xs
sum-times g [] = omega arith
sum-times g (x ∷ xs) =
    let products : sum (map (λ y. g * y) (x ∷ xs)) ≡ g * x + sum (map (λ y. g * y) xs) = sum_by-cons (λ y. y) (g * x) (map (λ y. g * y) xs) in
    let both : g * sum (x ∷ xs) ≡ g * (x + sum xs) = ap (λ n. g * n) (sum_by-cons (λ y. y) x xs) in
    omega (arith, products, both, sum-times g xs)

factor-some : (g s t : ℕ) → t ≡ g * s → 0 < t → 0 < s
factor-some g zero t is some = absurd (omega (arith, is, some))
factor-some g (suc s) t is some = omega arith

factor-le : (g s t : ℕ) → t ≡ g * s → 0 < g → s ≤ t
factor-le g s t is some =
    let one : 1 ≤ g = omega (arith, some) in
    let more : 1 * s ≤ g * s = mul-le-mul_right s one in
    omega (arith, is, more)

-- quotients of numbers with a sum above 0 have one, too
pub sum-times-some : (xs ys : List ℕ) (g : ℕ) → xs ≡ map (λ y. g * y) ys → 0 < sum xs → 0 < sum ys
sum-times-some xs ys g is = factor-some g (sum ys) (sum xs) (ap sum is ∙ sum-times g ys)

-- their sum is no greater
pub sum-times-le : (xs ys : List ℕ) (g : ℕ) → xs ≡ map (λ y. g * y) ys → 0 < g → sum ys ≤ sum xs
sum-times-le xs ys g is = factor-le g (sum ys) (sum xs) (ap sum is ∙ sum-times g ys)

-- the number 1, at least once, has no divisor but 1
pub HaveNoCommonDivisor-ones : (n : ℕ) → 0 < n → HaveNoCommonDivisor (ones n)
HaveNoCommonDivisor-ones zero some = absurd (omega arith)
HaveNoCommonDivisor-ones (suc n) some = λ d all. eq-one_of_dvd-one (all 0 0 (omega arith))

-- a plan of all weights 1
pub HaveNoCommonDivisor-all_ones : (s : QuorumSystem) (capacities : List ℕ) (p : Weighted) → p ≡ all_ones s capacities → IsCertificate p → HaveNoCommonDivisor p.quorum_weights
    × HaveNoCommonDivisor p.voter_weights
HaveNoCommonDivisor-all_ones s capacities p e is =
    let quorums = subst (λ (w : Weighted). 0 < length w.system.quorums) e is.coterie.some_quorum in
    let voters = subst (λ (w : Weighted). 0 < w.system.voters) e is.coterie.some_voter in (
      subst HaveNoCommonDivisor (sym (ap (λ (w : Weighted). w.quorum_weights) e)) (HaveNoCommonDivisor-ones (length s.quorums) quorums),
      subst HaveNoCommonDivisor (sym (ap (λ (w : Weighted). w.voter_weights) e)) (HaveNoCommonDivisor-ones s.voters voters),
    )

-- a plan of weights that were divided
pub HaveNoCommonDivisor-divided_plan : (p w : Weighted) (qs vs : List ℕ) → p ≡ w → w.quorum_weights ≡ qs → w.voter_weights ≡ vs → IsCertificate p → (0 < sum qs → HaveNoCommonDivisor qs)
    → (0 < sum vs → HaveNoCommonDivisor vs) → HaveNoCommonDivisor p.quorum_weights × HaveNoCommonDivisor p.voter_weights
HaveNoCommonDivisor-divided_plan p w qs vs e eq ev is low_q low_v =
    let at_q = ap (λ (x : Weighted). x.quorum_weights) e ∙ eq in
    let at_v = ap (λ (x : Weighted). x.voter_weights) e ∙ ev in
    (subst HaveNoCommonDivisor (sym at_q) (low_q (subst (λ x. 0 < sum x) at_q is.some_quorum)), subst HaveNoCommonDivisor (sym at_v) (low_v (subst (λ x. 0 < sum x) at_v is.some_voter)))
