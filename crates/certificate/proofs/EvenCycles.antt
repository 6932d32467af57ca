-- Lists in which each quorum is as often as its weight says.
use Rattle.std.proofs.Common.{◌≡◌, ℕ, ◌*◌, ◌≤◌, Bool, true, false, cond, List, [], ◌∷◌, length, get_or, zero, suc, max, refl, ap, inl, inr, arith}
use Rattle.std.proofs.lemmas.Bool.{cases_lt}
use Rattle.std.proofs.lemmas.List.{get_or_past}
use Rattle.std.proofs.Math.Nat.{mul-le-mul_left}
use Rattle.numbers.specs.Sets.{has}
use Rattle.quorum_set.specs.Counts.{count_of, busiest_of}
use Rattle.numbers.specs.Counts.{greatest_below, times}
use Rattle.numbers.specs.Sums.{sum_below}
use Rattle.certificate.specs.Loads.{weight_on}
use Rattle.certificate.specs.Certificates.{Weighted, AreWeights, busiest_count, cycle_count, cycle_ratio}
use Rattle.certificate.specs.Ratios.{ratio_of}
use Rattle.certificate.proofs.RatioLemmas.{greatest_ratio-bound, greatest_ratio-is, greatest_ratio-reached, greatest_ratio-some}
use Rattle.divisor.specs.Gcd.{lowest_terms}
use Rattle.numbers.proofs.CountLemmas.{sum_by-none_above}
use Rattle.numbers.proofs.SumsBelow.{sum_by-zero_above, sum_below-head, sum_below-same, sum_below-times, sum_by-sum_below}

-- the weight on the quorums with a voter, summed quorum by quorum
weight_on-sum_below : (i : ℕ) (qs : List (List ℕ)) (ws : List ℕ) → length ws ≡ length qs
    → weight_on i qs ws ≡ sum_below (λ j. cond (has (get_or qs j []) i) (get_or ws j 0) 0) (length qs)
weight_on-sum_below i [] ws e = refl
weight_on-sum_below i (q ∷ qs) [] e = absurd (omega arith)
weight_on-sum_below i (q ∷ qs) (x ∷ ws) e =
    let head = sum_below-head (length qs) (λ j. cond (has (get_or (q ∷ qs) j []) i) (get_or (x ∷ ws) j 0) 0) in
    omega (arith, head, weight_on-sum_below i qs ws (omega arith))

cond-times : (b : Bool) (k x y : ℕ) → x ≡ k * y → cond b 1 0 * x ≡ k * cond b y 0
cond-times true k x y e = omega (arith, e)
cond-times false k x y e = omega arith

pub count_of-even : (w : Weighted) (k : ℕ) (list : List ℕ) → length w.quorum_weights ≡ length w.system.quorums → ((j : ℕ) → times j list ≡ k * get_or w.quorum_weights j 0)
    → (i : ℕ) → count_of w.system i list ≡ k * weight_on i w.system.quorums w.quorum_weights
count_of-even w k list e present i =
    let qs = w.system.quorums in
    let ws = w.quorum_weights in
    let n = length qs in
    let on : ℕ → Bool = λ j. has (get_or qs j []) i in
    let none = sum_by-none_above n list (λ j past. omega (arith, present j, ap (λ t. k * t) (get_or_past ws j 0 (omega (arith, e))))) in
    let even = sum_below-same n (λ j. cond (on j) 1 0 * times j list) (λ j. k * cond (on j) (get_or ws j 0) 0)
    (λ j lt. cond-times (on j) k (times j list) (get_or ws j 0) (present j)) in
    omega (
      arith,
      sum_by-sum_below n (λ j. cond (on j) 1 0) list,
      sum_by-zero_above n (λ j. cond (on j) 1 0) list none,
      even,
      sum_below-times n k (λ j. cond (on j) (get_or ws j 0) 0),
      ap (λ t. k * t) (weight_on-sum_below i qs ws e),
    )

max-times : (k a b : ℕ) → max (k * a) (k * b) ≡ k * max a b
max-times k a b =
    elim (cases_lt a b) as (λ _. max (k * a) (k * b) ≡ k * max a b) [
      | inl less ↦ let most : max a b ≡ b = omega arith in let le : k * a ≤ k * b = mul-le-mul_left k (omega arith) in rw most (omega arith)
      | inr more ↦ let most : max a b ≡ a = omega arith in let le : k * b ≤ k * a = mul-le-mul_left k more in rw most (omega arith)
    ]

greatest_below-times : (n k : ℕ) (f g : ℕ → ℕ) → ((i : ℕ) → f i ≡ k * g i) → greatest_below n f ≡ k * greatest_below n g
greatest_below-times zero k f g e = omega arith
greatest_below-times (suc n) k f g e =
    let rest = greatest_below-times n k f g e in
    let last = e n in
    let most = max-times k (greatest_below n g) (g n) in
    cc

pub busiest_of-even : (w : Weighted) (k : ℕ) (list : List ℕ) → length w.quorum_weights ≡ length w.system.quorums → ((j : ℕ) → times j list ≡ k * get_or w.quorum_weights j 0)
    → busiest_of w.system list ≡ k * busiest_count w
busiest_of-even w k list e present =
    greatest_below-times w.system.voters k (λ i. count_of w.system i list) (λ i. weight_on i w.system.quorums w.quorum_weights) (count_of-even w k list e present)

-- a voter's count of k cycles, next to k times the ratio of one
count-times-le : (k c q p cap count : ℕ) → count ≡ k * c → c * q ≤ p * cap → count * q ≤ k * p * cap
count-times-le k c q p cap count e le =
    let scaled : k * (c * q) ≤ k * (p * cap) = mul-le-mul_left k le in
    let is : count * q ≡ k * c * q = ap (λ x. x * q) e in
    omega (arith, scaled, is)

count-times-ge : (k c q p cap count : ℕ) → count ≡ k * c → c * q ≡ p * cap → k * p * cap ≤ count * q
count-times-ge k c q p cap count e same =
    let scaled : k * (c * q) ≡ k * (p * cap) = ap (λ x. k * x) same in
    let is : count * q ≡ k * c * q = ap (λ x. x * q) e in
    omega (arith, scaled, is)

pub ratio_of-even : (w : Weighted) (k : ℕ) (list : List ℕ) → AreWeights w → ((j : ℕ) → times j list ≡ k * get_or w.quorum_weights j 0)
    → ratio_of w.system w.capacities list ≡ lowest_terms (k * (cycle_ratio w).0) (cycle_ratio w).1
ratio_of-even w k list h present =
    let s = w.system in
    let r = cycle_ratio w in
    let counts = count_of-even w k list h.quorums present in
    let found = greatest_ratio-reached s.voters w.capacities (cycle_count w) h.capacities h.coterie.some_voter in
    greatest_ratio-is s.voters w.capacities (λ i. count_of s i list) h.capacities (k * r.0) r.1
    (greatest_ratio-some s.voters w.capacities (cycle_count w) h.capacities)
    (λ i lt. count-times-le k (cycle_count w i) r.1 r.0 (get_or w.capacities i 0) (count_of s i list) (counts i)
    (greatest_ratio-bound s.voters w.capacities (cycle_count w) h.capacities i lt))
    found.0 found.1
    (count-times-ge k (cycle_count w found.0) r.1 r.0 (get_or w.capacities found.0 0) (count_of s found.0 list) (counts found.0) found.2)
