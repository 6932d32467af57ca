-- A cycle goes by turns.
use Rattle.std.proofs.Common.{◌≡◌, ℕ, ◌+◌, ◌-◌, ◌<◌, ◌≤◌, Bool, true, false, cond, eqb, leb, List, ◌++◌, length, get_or, take, zero, suc, sym, refl, ap, ap₂, ◌∙◌, subst, inl, inr, arith}
use Rattle.std.specs.List.{flat_map, range_with_len}
use Rattle.std.proofs.Math.Seq.{take-append-add}
use Rattle.std.proofs.lemmas.Bool.{cases_lt, lt-leb}
use Rattle.std.proofs.lemmas.List.{get_or_append_left, get_or-append-add, get_or-take, length-append, length-take-le, take-append-le}
use Rattle.std.proofs.lemmas.List.FromFn.{get_or-range_with_len, length-range_with_len}
use Rattle.std.proofs.lemmas.List.Kept.{AllPairs-from_increasing, IsStrictlyIncreasing-filter}
use Rattle.std.proofs.lemmas.List.Sums.{sum_by-take-le}
use Rattle.numbers.specs.Counts.{times}
use Rattle.dealer.specs.Cycles.{round_of, greatest_weight, cycle_of, turn_at, GoesByTurns}
use Rattle.dealer.proofs.CycleLemmas.{times-round_of, times-rounds, flat_map-rounds_more, cycle_of-rounds}
use Rattle.numbers.proofs.CountLemmas.{times-append, times-get_or}

-- a quorum of a round has a weight of at least the round's number
round_of-weight : (weights : List ℕ) (r i : ℕ) → 0 < r → i < length (round_of weights r) → r ≤ get_or weights (get_or (round_of weights r) i 0) 0
round_of-weight weights r i some lt =
    let j = get_or (round_of weights r) i 0 in
    let weight = get_or weights j 0 in
    elim (cases_lt weight r) [
      | inl less ↦
          let none = ap (λ b. cond {A = ℕ} b 1 0) (lt-leb r weight less) in
          absurd (omega (arith, times-get_or (round_of weights r) i lt, times-round_of weights r j some, none))
      | inr more ↦ more
    ]

-- a round names no quorum twice
times-round_of-le : (weights : List ℕ) (r j : ℕ) → 0 < r → times j (round_of weights r) ≤ 1
times-round_of-le weights r j some = omega (arith, times-round_of weights r j some, cond_small (leb r (get_or weights j 0)))
  where
    cond_small : (b : Bool) → cond {A = ℕ} b 1 0 ≤ 1
    cond_small true = omega arith
    cond_small false = omega arith

-- the place of a round's quorum within the round is its only one there
times-within : (weights : List ℕ) (r i : ℕ) → 0 < r → i < length (round_of weights r) → times (get_or (round_of weights r) i 0) (take (i + 1) (round_of weights r)) ≡ 1
times-within weights r i some lt =
    let list = round_of weights r in
    let j = get_or list i 0 in
    let front = take (i + 1) list in
    let present = times-get_or front i (omega (arith, length-take-le (i + 1) list (omega arith))) in
    let here = ap (λ x. times x front) (get_or-take (i + 1) list i 0 (omega arith)) in
    omega (arith, present, here, sum_by-take-le (λ k. cond (eqb k j) 1 0) list (i + 1), times-round_of-le weights r j some)

-- a round ascends
round_of-ascends : (weights : List ℕ) (r i j : ℕ) → i < j → j < length (round_of weights r) → get_or (round_of weights r) i 0 < get_or (round_of weights r) j 0
round_of-ascends weights r i j before lt =
    let n = length weights in
    let numbers = range_with_len 0 n in
    let rising = λ (k : ℕ) (in_range : k + 1 < length numbers). numbers_rise n k (omega (arith, length-range_with_len 0 n)) in
    AllPairs-from_increasing (round_of weights r) (IsStrictlyIncreasing-filter (λ k. leb r (get_or weights k 0)) numbers rising) i j 0 before lt
  where
    numbers_rise : (n k : ℕ) → k + 1 < n → get_or (range_with_len 0 n) k 0 < get_or (range_with_len 0 n) (k + 1) 0
    numbers_rise n k lt = omega (arith, get_or-range_with_len 0 n k 0 (omega arith), get_or-range_with_len 0 n (k + 1) 0 lt)

-- the first rounds go by turns, and no turn in them is above their number
record IsUpTo (list : List ℕ) (r : ℕ) : Type 0 where
  by_turns : GoesByTurns list
  turns : (place : ℕ) → place < length list → turn_at list place ≤ r

-- a place of the first list keeps its turn where a second list follows
turn_at-left : (list more : List ℕ) (place : ℕ) → place < length list → turn_at (list ++ more) place ≡ turn_at list place
turn_at-left list more place lt =
    ap₂ times (get_or_append_left list more 0 place lt) (take-append-le (place + 1) list more (omega arith))

-- a place of the second list, where the first has named its quorum r times and the second names it there alone
turn_at-right : (list more : List ℕ) (i r : ℕ) → times (get_or more i 0) list ≡ r → times (get_or more i 0) (take (i + 1) more) ≡ 1 → turn_at (list ++ more) (length list + i) ≡ r + 1
turn_at-right list more i r before here =
    let last : length list + i + 1 ≡ length list + (i + 1) = omega arith in
    let front = ap (λ n. take n (list ++ more)) last ∙ take-append-add list more (i + 1) in
    let both = ap₂ times (get_or-append-add list more i 0) front in
    omega (arith, both, times-append (get_or more i 0) list (take (i + 1) more), before, here)

-- the turns of the next round
turn_at-round : (weights list : List ℕ) (r i place : ℕ) → list ≡ flat_map (round_of weights) (range_with_len 1 r) → i < length (round_of weights (r + 1)) → place ≡ length list + i
    → turn_at (list ++ round_of weights (r + 1)) place ≡ r + 1
turn_at-round weights list r i place is lt at =
    let round = round_of weights (r + 1) in
    let j = get_or round i 0 in
    let before : times j list ≡ r =
    omega (arith, ap (times j) is, times-rounds weights 1 r j (omega arith), round_of-weight weights (r + 1) i (omega arith) lt) in
    ap (turn_at (list ++ round)) at ∙ turn_at-right list round i r before (times-within weights (r + 1) i (omega arith) lt)

-- one round more
IsUpTo-more : (weights list : List ℕ) (r : ℕ) → list ≡ flat_map (round_of weights) (range_with_len 1 r) → IsUpTo list r → IsUpTo (list ++ round_of weights (r + 1)) (r + 1)
IsUpTo-more weights list r is up_to =
    let round = round_of weights (r + 1) in
    let long = length-append list round in
    record {
      by_turns = λ place later before lt.
          elim (cases_lt later (length list)) [
            | inl early ↦
                let turn_place = turn_at-left list round place (omega arith) in
                let turn_later = turn_at-left list round later early in
                let at_place = get_or_append_left list round 0 place (omega arith) in
                let at_later = get_or_append_left list round 0 later early in
                elim (up_to.by_turns place later before early) [
                  | inl turn ↦ inl (omega arith)
                  | inr same ↦ inr (omega (arith, same.0), omega (arith, same.1))
                ]
            | inr late ↦
                let j = later - length list in
                let turn_later = turn_at-round weights list r j later is (omega arith) (omega arith) in
                elim (cases_lt place (length list)) [
                  | inl early ↦
                      let turn_place = turn_at-left list round place early in
                      inl (omega (arith, up_to.turns place early))
                  | inr same ↦
                      let i = place - length list in
                      let turn_place = turn_at-round weights list r i place is (omega arith) (omega arith) in
                      let at_place : get_or (list ++ round) place 0 ≡ get_or round i 0 = at_right list round place i (omega arith) in
                      let at_later : get_or (list ++ round) later 0 ≡ get_or round j 0 = at_right list round later j (omega arith) in
                      inr (omega arith, omega (arith, round_of-ascends weights (r + 1) i j (omega arith) (omega arith)))
                ]
          ];
      turns = λ place lt.
          elim (cases_lt place (length list)) [
            | inl early ↦ omega (arith, turn_at-left list round place early, up_to.turns place early)
            | inr late ↦ omega (arith, turn_at-round weights list r (place - length list) place is (omega arith) (omega arith))
          ];
    }
  where
    at_right : (list more : List ℕ) (place i : ℕ) → place ≡ length list + i → get_or (list ++ more) place 0 ≡ get_or more i 0
    at_right list more place i at = ap (λ k. get_or (list ++ more) k 0) at ∙ get_or-append-add list more i 0

IsUpTo-rounds : (weights : List ℕ) (r : ℕ) → IsUpTo (flat_map (round_of weights) (range_with_len 1 r)) r
IsUpTo-rounds weights zero = record {
  by_turns = λ place later before lt. absurd (omega arith);
  turns = λ place lt. absurd (omega arith);
}
IsUpTo-rounds weights (suc r) =
    let list = flat_map (round_of weights) (range_with_len 1 r) in
    let next : suc r ≡ r + 1 = omega arith in
    let more = IsUpTo-more weights list r refl (IsUpTo-rounds weights r) in
    subst (λ (n : ℕ). IsUpTo (flat_map (round_of weights) (range_with_len 1 n)) n) (sym next)
    (subst (λ (all : List ℕ). IsUpTo all (r + 1)) (sym (flat_map-rounds_more weights r (r + 1) refl)) more)

-- a cycle goes by turns
pub GoesByTurns-cycle_of : (weights : List ℕ) → GoesByTurns (cycle_of weights)
GoesByTurns-cycle_of weights =
    subst (λ (list : List ℕ). GoesByTurns list) (cycle_of-rounds weights) (IsUpTo-rounds weights (greatest_weight weights)).by_turns
