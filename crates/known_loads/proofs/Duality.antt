-- Weights of voters bound the counts of voters: the weak duality of linear programs, in whole numbers.
use Rattle.std.proofs.Common.{◌≡◌, ℕ, ◌+◌, ◌*◌, ◌<◌, ◌≤◌, Bool, true, false, cond, List, [], ◌∷◌, length, get_or, suc, sum, sum_by, sym, ap, ◌∙◌, inl, inr, arith}
use Rattle.std.proofs.lemmas.Bool.{cases_eq}
use Rattle.std.proofs.lemmas.List.Sums.{sum_by-cons}
use Rattle.std.proofs.Math.Nat.{mul-le-mul_left, mul-le-mul_right}
use Rattle.numbers.specs.Counts.{least_of}
use Rattle.numbers.specs.Sets.{has, Ascends}
use Rattle.numbers.specs.Sums.{sum_below}
use Rattle.numbers.proofs.CountLemmas.{least_of-le}
use Rattle.numbers.proofs.SetLemmas.{has-tail}
use Rattle.numbers.proofs.SumsBelow.{sum_below-add, sum_below-cross, sum_below-members, sum_below-same, sum_below-times, sum_by-one}
use Rattle.quorum_set.specs.Coteries.{QuorumSystem, IsCoterie}
use Rattle.quorum_set.proofs.Meetings.{AllMeet-coterie}
use Rattle.certificate.specs.Loads.{weight_on}
use Rattle.certificate.proofs.Duality.{Bears, quorum-Ascends}

-- Two lists of weights

-- a member's weight is within the weight of a set
sum_by-has : (f : ℕ → ℕ) (q : List ℕ) (v : ℕ) → has q v ≡ true → f v ≤ sum_by f q
sum_by-has f [] v e = absurd (no_member e)
  where
    no_member : false ≡ true → ⊥
    no_member e = cc
sum_by-has f (x ∷ xs) v e =
    elim (cases_eq x v) as (λ _. f v ≤ sum_by f (x ∷ xs)) [
      | inl at ↦ omega (arith, sum_by-cons f x xs, ap f at)
      | inr off ↦ omega (arith, sum_by-cons f x xs, sum_by-has f xs v (sym (has-tail x xs v off) ∙ e))
    ]

module _ (s : QuorumSystem) (uses p q : ℕ) (count capacity : ℕ → ℕ) (bears : Bears s.voters s.quorums uses count)
    (bound : (i : ℕ) → i < s.voters → count i * q ≤ p * capacity i) where
  -- each voter weighs 1
  pub average : uses * least_of length s.quorums * q ≤ p * sum_below capacity s.voters
  average =
      let c = least_of length s.quorums in
      let low = bears (λ i. 1) c (λ j lt. omega (arith, least_of-le length s.quorums j [] lt, sum_by-one (get_or s.quorums j []))) in
      let scaled : uses * c * q ≤ sum_below (λ i. 1 * count i) s.voters * q = mul-le-mul_right q low in
      let high = sum_below-cross s.voters p q (λ i. 1) count capacity bound in
      let same : p * sum_below (λ i. 1 * capacity i) s.voters ≡ p * sum_below capacity s.voters =
      ap (λ t. p * t) (sum_below-same s.voters (λ i. 1 * capacity i) capacity (λ i lt. omega arith)) in
      omega (arith, scaled, high, same)

  -- the members of one quorum weigh 1, and the others nothing
  pub one_quorum : IsCoterie s → (k : ℕ) → k < length s.quorums → uses * q ≤ p * sum_by capacity (get_or s.quorums k [])
  one_quorum is k below =
      let t = get_or s.quorums k [] in
      let weight : ℕ → ℕ = λ i. cond (has t i) 1 0 in
      let low : uses * 1 ≤ sum_below (λ i. weight i * count i) s.voters = bears weight 1 (λ j lt.
      let common = AllMeet-coterie s is j k lt below in
      let here : weight common.0 ≡ 1 = ap (λ b. cond {A = ℕ} b 1 0) common.3 in
      omega (arith, here, sum_by-has weight (get_or s.quorums j []) common.0 common.2)) in
      let scaled : uses * 1 * q ≤ sum_below (λ i. weight i * count i) s.voters * q = mul-le-mul_right q low in
      let high = sum_below-cross s.voters p q weight count capacity bound in
      let alike = sum_below-same s.voters (λ i. weight i * capacity i) (λ i. cond (has t i) (capacity i) 0) (λ i lt. by_test (has t i) (capacity i)) in
      let same : p * sum_below (λ i. weight i * capacity i) s.voters ≡ p * sum_by capacity t =
      ap (λ x. p * x) (alike ∙ sum_below-members 0 s.voters capacity t (quorum-Ascends s k is below)) in
      omega (arith, scaled, high, same)
    where
      by_test : (b : Bool) (c : ℕ) → cond b 1 0 * c ≡ cond b c 0
      by_test true c = omega arith
      by_test false c = omega arith
