-- Weights of voters bound the counts of voters: the weak duality of linear programs, in whole numbers.
use Rattle.std.proofs.Common.{◌≡◌, ℕ, ◌+◌, ◌*◌, ◌<◌, ◌≤◌, Bool, true, false, cond, List, [], ◌∷◌, length, get_or, suc, sum, sum_by, ap, ◌∙◌, arith}
use Rattle.std.specs.List.{All}
use Rattle.std.proofs.lemmas.List.Sums.{sum_by-cons}
use Rattle.std.proofs.lemmas.List.Elements.{All-head, All-tail}
use Rattle.std.proofs.Math.Nat.{mul-le-mul_left}
use Rattle.numbers.specs.Sets.{has, Ascends}
use Rattle.numbers.specs.Sums.{sum_below}
use Rattle.numbers.proofs.SetLemmas.{Ascends-all_below}
use Rattle.numbers.proofs.SumsBelow.{sum_below-add, sum_below-members, sum_below-same, sum_below-times}
use Rattle.quorum_set.specs.Coteries.{QuorumSystem, IsCoterie}
use Rattle.quorum_set.specs.Counts.{count_of}
use Rattle.certificate.specs.Loads.{weight_on}

-- The quorums have N uses in all: whatever the voters weigh, if each quorum weighs at least the amount `light`, then the
-- voters' counts, each times the voter's weight, add up to at least N times that.
abbrev pub Bears : ℕ → List (List ℕ) → ℕ → (ℕ → ℕ) → Type 0
Bears n quorums uses count =
    (weight : ℕ → ℕ) (light : ℕ) → ((j : ℕ) → j < length quorums → light ≤ sum_by weight (get_or quorums j []))
    → uses * light ≤ sum_below (λ i. weight i * count i) n

-- a quorum as a set of numbers below the number of voters
pub quorum-Ascends : (s : QuorumSystem) (j : ℕ) → IsCoterie s → j < length s.quorums → Ascends 0 s.voters (get_or s.quorums j [])
quorum-Ascends s j is lt = Ascends-all_below 0 64 s.voters (get_or s.quorums j []) (is.sets j [] lt) (is.in_range j [] lt)

count_step : (h : Bool) (w more less : ℕ) → more ≡ cond h 1 0 + less → w * more ≡ cond h w 0 + w * less
count_step true w more less e = rw e (omega arith)
count_step false w more less e = rw e (omega arith)

-- one entry more
weighed-cons : (s : QuorumSystem) (weight : ℕ → ℕ) (j : ℕ) (list : List ℕ) → IsCoterie s → j < length s.quorums
    → sum_below (λ i. weight i * count_of s i (j ∷ list)) s.voters
    ≡ sum_by weight (get_or s.quorums j []) + sum_below (λ i. weight i * count_of s i list) s.voters
weighed-cons s weight j list is lt =
    let q = get_or s.quorums j [] in
    let split = sum_below-same s.voters (λ i. weight i * count_of s i (j ∷ list)) (λ i. cond (has q i) (weight i) 0 + weight i * count_of s i list)
    (λ i below. count_step (has q i) (weight i) (count_of s i (j ∷ list)) (count_of s i list) (sum_by-cons (λ k. cond (has (get_or s.quorums k []) i) 1 0) j list)) in
    split ∙ sum_below-add s.voters (λ i. cond (has q i) (weight i) 0) (λ i. weight i * count_of s i list)
    ∙ ap (λ t. t + sum_below (λ i. weight i * count_of s i list) s.voters) (sum_below-members 0 s.voters weight q (quorum-Ascends s j is lt))

pub Bears-list : (s : QuorumSystem) (list : List ℕ) → IsCoterie s → All (λ j. j < length s.quorums) list
    → Bears s.voters s.quorums (length list) (λ i. count_of s i list)
Bears-list s [] is small weight light each = omega arith
Bears-list s (j ∷ list) is small weight light each =
    let lt : j < length s.quorums = All-head (λ j. j < length s.quorums) j list small in
    omega (arith, weighed-cons s weight j list is lt, each j lt, Bears-list s list is (All-tail (λ j. j < length s.quorums) j list small) weight light each)

-- Weights of quorums

weight_step : (h : Bool) (b x less : ℕ) → b * (cond h x 0 + less) ≡ x * cond h b 0 + b * less
weight_step true b x less = omega arith
weight_step false b x less = omega arith

Bears-weights : (n : ℕ) (quorums : List (List ℕ)) (weights : List ℕ) → length weights ≡ length quorums
    → ((j : ℕ) → j < length quorums → Ascends 0 n (get_or quorums j []))
    → Bears n quorums (sum weights) (λ i. weight_on i quorums weights)
Bears-weights n [] [] long up weight light each = omega arith
Bears-weights n [] (x ∷ weights) long up weight light each = absurd (omega arith)
Bears-weights n (q ∷ quorums) [] long up weight light each = absurd (omega arith)
Bears-weights n (q ∷ quorums) (x ∷ weights) long up weight light each =
    let split = sum_below-same n (λ i. weight i * weight_on i (q ∷ quorums) (x ∷ weights)) (λ i. x * cond (has q i) (weight i) 0 + weight i * weight_on i quorums weights)
    (λ i lt. weight_step (has q i) (weight i) x (weight_on i quorums weights)) in
    let added = sum_below-add n (λ i. x * cond (has q i) (weight i) 0) (λ i. weight i * weight_on i quorums weights) in
    let first = sum_below-times n x (λ i. cond (has q i) (weight i) 0) in
    let members : x * sum_below (λ i. cond (has q i) (weight i) 0) n ≡ x * sum_by weight q =
    ap (λ t. x * t) (sum_below-members 0 n weight q (up 0 (omega arith))) in
    let heavy : x * light ≤ x * sum_by weight q = mul-le-mul_left x (each 0 (omega arith)) in
    let rest = Bears-weights n quorums weights (omega arith) (λ j lt. up (suc j) (omega arith)) weight light (λ j lt. each (suc j) (omega arith)) in
    let all : sum (x ∷ weights) * light ≡ (x + sum weights) * light = ap (λ t. t * light) (sum_by-cons (λ y. y) x weights) in
    omega (arith, split, added, first, members, heavy, rest, all)

pub Bears-cycle : (s : QuorumSystem) (weights : List ℕ) → IsCoterie s → length weights ≡ length s.quorums
    → Bears s.voters s.quorums (sum weights) (λ i. weight_on i s.quorums weights)
Bears-cycle s weights is long = Bears-weights s.voters s.quorums weights long (λ j lt. quorum-Ascends s j is lt)
