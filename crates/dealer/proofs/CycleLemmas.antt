-- The quorums of a cycle, and how often each is in it.
use Rattle.std.proofs.Common.{◌≡◌, ℕ, ◌+◌, ◌-◌, ◌<◌, ◌≤◌, cond, leb, List, ◌++◌, length, get_or, zero, suc, min, sum, sym, refl, ap, ◌∙◌, inl, inr, arith}
use Rattle.std.specs.List.{flat_map, range_with_len}
use Rattle.std.proofs.lemmas.Bool.{cases_lt, le-leb, lt-leb}
use Rattle.std.proofs.lemmas.List.{get_or_past}
use Rattle.numbers.specs.Counts.{times}
use Rattle.dealer.specs.Cycles.{round_of, greatest_weight, cycle_of}
use Rattle.numbers.proofs.SumsBelow.{sum_below-same, sum_below-list, length-sum_below}
use Rattle.numbers.proofs.CountLemmas.{sum_by-none_above, flat_map-range_more, greatest_below-le, times-append, times-get_or, times-filter, times-filter_above}

-- a round names each quorum once whose weight is at least the round's number, and no other
pub times-round_of : (weights : List ℕ) (r j : ℕ) → 0 < r → times j (round_of weights r) ≡ cond (leb r (get_or weights j 0)) 1 0
times-round_of weights r j some =
    elim (cases_lt j (length weights)) [
      | inl inside ↦ times-filter (λ k. leb r (get_or weights k 0)) 0 (length weights) j (omega arith) (omega arith)
      | inr outside ↦
          let small : get_or weights j 0 < r = omega (arith, get_or_past weights j 0 outside) in
          times-filter_above (λ k. leb r (get_or weights k 0)) 0 (length weights) j (omega arith)
          ∙ sym (ap (λ b. cond {A = ℕ} b 1 0) (lt-leb r (get_or weights j 0) small))
    ]

-- n rounds from round r on name a quorum as often as its weight, less r - 1, but at most n times
pub times-rounds : (weights : List ℕ) (r n j : ℕ) → 0 < r → times j (flat_map (round_of weights) (range_with_len r n)) ≡ min n ((get_or weights j 0 + 1) - r)
times-rounds weights r zero j some = omega arith
times-rounds weights r (suc n) j some =
    let both = times-append j (round_of weights r) (flat_map (round_of weights) (range_with_len (r + 1) n)) in
    let rest = times-rounds weights (r + 1) n j (omega arith) in
    let one = times-round_of weights r j some in
    let weight = get_or weights j 0 in
    elim (cases_lt weight r) [
      | inl less ↦ let here = ap (λ b. cond {A = ℕ} b 1 0) (lt-leb r weight less) in omega (arith, both, rest, one, here)
      | inr more ↦ let here = ap (λ b. cond {A = ℕ} b 1 0) (le-leb r weight more) in omega (arith, both, rest, one, here)
    ]

-- no weight is above the greatest
pub get_or-le-greatest_weight : (weights : List ℕ) (j : ℕ) → get_or weights j 0 ≤ greatest_weight weights
get_or-le-greatest_weight weights j =
    elim (cases_lt j (length weights)) [
      | inl inside ↦ greatest_below-le (length weights) (λ k. get_or weights k 0) j inside
      | inr outside ↦ omega (arith, get_or_past weights j 0 outside)
    ]

-- each quorum is in a cycle as often as its weight
pub times-cycle_of : (weights : List ℕ) (j : ℕ) → times j (cycle_of weights) ≡ get_or weights j 0
unfolding cycle_of
times-cycle_of weights j =
    omega (arith, times-rounds weights 1 (greatest_weight weights) j (omega arith), get_or-le-greatest_weight weights j)

-- a cycle is as long as its weights add up to
pub length-cycle_of : (weights : List ℕ) → length (cycle_of weights) ≡ sum weights
length-cycle_of weights =
    let n = length weights in
    let list = cycle_of weights in
    let none = sum_by-none_above n list (λ j le. times-cycle_of weights j ∙ get_or_past weights j 0 le) in
    let each = sum_below-same n (λ j. times j list) (λ j. get_or weights j 0) (λ j lt. times-cycle_of weights j) in
    omega (arith, length-sum_below n list, none, each, sum_below-list (λ x. x) weights)

-- a cycle names no quorum past the last
pub cycle_of-lt : (weights : List ℕ) (i : ℕ) → i < sum weights → get_or (cycle_of weights) i 0 < length weights
cycle_of-lt weights i lt =
    let j = get_or (cycle_of weights) i 0 in
    let some = times-get_or (cycle_of weights) i (omega (arith, length-cycle_of weights)) in
    elim (cases_lt j (length weights)) as (λ _. j < length weights) [
      | inl inside ↦ inside
      | inr outside ↦ absurd (omega (arith, some, times-cycle_of weights j, get_or_past weights j 0 outside))
    ]

-- one round more
pub flat_map-rounds_more : (weights : List ℕ) (r more : ℕ) → more ≡ r + 1 → flat_map (round_of weights) (range_with_len 1 more) ≡ flat_map (round_of weights) (range_with_len 1 r)
    ++ round_of weights more
flat_map-rounds_more weights r more e =
    let next : more ≡ suc r = omega arith in
    ap (λ n. flat_map (round_of weights) (range_with_len 1 n)) next ∙ flat_map-range_more (round_of weights) 1 r more (omega arith)

pub cycle_of-rounds : (weights : List ℕ) → flat_map (round_of weights) (range_with_len 1 (greatest_weight weights)) ≡ cycle_of weights
unfolding cycle_of
cycle_of-rounds weights = refl
