-- The blocks of a cycle: which quorum is at a place of one.
use Rattle.std.proofs.Common.{◌≡◌, ℕ, ◌+◌, ◌-◌, ◌*◌, ◌/◌, ◌%◌, ◌<◌, ◌≤◌, List, [], ◌∷◌, ◌++◌, length, get_or, map, take, zero, suc, sum, sym, refl, ap, ap₂, ◌∙◌, subst, inl, inr, arith}
use Rattle.std.specs.List.{flat_map, range_with_len}
use Rattle.std.proofs.Math.Nat.{div-add-mod, div-lt_iff_lt-mul}
use Rattle.std.proofs.Math.Seq.{get_or-append_seam}
use Rattle.std.proofs.lemmas.Bool.{cases_lt}
use Rattle.std.proofs.lemmas.List.{get_or_append_left, get_or-map, length-append, length-map, map-append}
use Rattle.std.proofs.lemmas.List.Concat.{get_or-flat_map}
use Rattle.std.proofs.lemmas.List.FromFn.{get_or-range_with_len, length-range_with_len}
use Rattle.dealer.specs.Cycles.{round_of, greatest_weight, cycle_of}
use Rattle.dealer.specs.Blocks.{places_of, rounds_before, IsBlock, AreBlocksUpTo, AreBlocksOf, AreInOrder, IsPlaceIn}
use Rattle.dealer.specs.declared.rounds.Block.{Block}
use Rattle.dealer.proofs.CycleLemmas.{flat_map-rounds_more, cycle_of-rounds, length-cycle_of}

-- one round more fills as many places as it lists quorums
pub places_of-more : (weights : List ℕ) (r : ℕ) → places_of weights (r + 1) ≡ places_of weights r + length (round_of weights (r + 1))
places_of-more weights r =
    ap length (flat_map-rounds_more weights r (r + 1) refl)
    ∙ length-append (flat_map (round_of weights) (range_with_len 1 r)) (round_of weights (r + 1))

-- rounds that list equally many quorums
places_same : (weights : List ℕ) (before least count k : ℕ) → ((r : ℕ) → before < r → r ≤ least → length (round_of weights r) ≡ count) → before + k ≤ least
    → places_of weights (before + k) ≡ places_of weights before + k * count
places_same weights before least count zero same le =
    let at : before + 0 ≡ before = omega arith in
    omega (arith, ap (places_of weights) at)
places_same weights before least count (suc k) same le =
    let at : before + suc k ≡ before + k + 1 = omega arith in
    let more : suc k * count ≡ k * count + count = omega arith in
    omega (
      arith,
      ap (places_of weights) at,
      places_of-more weights (before + k),
      same (before + k + 1) (omega arith) (omega arith),
      places_same weights before least count k same (omega arith),
    )

-- more rounds fill no fewer places
places_add : (weights : List ℕ) (r k : ℕ) → places_of weights r ≤ places_of weights (r + k)
places_add weights r zero =
    let at : r + 0 ≡ r = omega arith in
    omega (arith, ap (places_of weights) at)
places_add weights r (suc k) =
    let at : r + suc k ≡ r + k + 1 = omega arith in
    omega (arith, ap (places_of weights) at, places_of-more weights (r + k), places_add weights r k)

pub places_of-rise : (weights : List ℕ) (r s : ℕ) → r ≤ s → places_of weights r ≤ places_of weights s
places_of-rise weights r s le =
    let at : r + (s - r) ≡ s = omega arith in
    omega (arith, ap (places_of weights) at, places_add weights r (s - r))

-- all rounds fill all places
pub places_of-all : (weights : List ℕ) → places_of weights (greatest_weight weights) ≡ sum weights
places_of-all weights = ap length (cycle_of-rounds weights) ∙ length-cycle_of weights

-- the rounds of a block fill its count of places each
pub places_of-block : (weights : List ℕ) (before k : ℕ) (b : Block) → IsBlock weights before b → before + k ≤ b.least → places_of weights (before + k) ≡ b.first + k * b.count
places_of-block weights before k b is le =
    omega (
      arith,
      places_same weights before b.least b.count k (λ r lo hi. ap length (is.same r lo hi) ∙ sym is.count) le,
      is.first,
    )

take_range : (a n k : ℕ) → k ≤ n → take k (range_with_len a n) ≡ range_with_len a k
take_range a n zero le = refl
take_range a zero (suc k) le = absurd (omega arith)
take_range a (suc n) (suc k) le = ap (λ xs. a ∷ xs) (take_range (a + 1) n k (omega arith))

-- a quorum of a round, by its place in the cycle
round_at : (weights : List ℕ) (r i place : ℕ) → r < greatest_weight weights → place ≡ places_of weights r + i → i < length (round_of weights (r + 1))
    → get_or (cycle_of weights) place 0 ≡ get_or (round_of weights (r + 1)) i 0
round_at weights r i place lt at inside =
    let g = greatest_weight weights in
    let all = range_with_len 1 g in
    let number : get_or all r 0 ≡ r + 1 = omega (arith, get_or-range_with_len 1 g r 0 lt) in
    let present = get_or-flat_map (round_of weights) all r i 0 0 (omega (arith, length-range_with_len 1 g)) (omega (arith, ap (λ s. length (round_of weights s)) number)) in
    ap₂ (λ list p. get_or list p 0) (sym (cycle_of-rounds weights)) (at ∙ ap (λ rounds. length (flat_map (round_of weights) rounds) + i) (sym (take_range 1 g r (omega arith))))
    ∙ present
    ∙ ap (λ s. get_or (round_of weights s) i 0) number

-- the quorums of a block
in_block : (weights : List ℕ) (before place : ℕ) (b : Block) → IsBlock weights before b → b.least ≤ greatest_weight weights → b.first ≤ place → place < places_of weights b.least
    → get_or (cycle_of weights) place 0 ≡ get_or (round_of weights b.least) ((place - b.first) % b.count) 0
in_block weights before place b is most begun ended =
    let some = is.some_quorum in
    let later = is.some_round in
    let rest = place - b.first in
    let k = rest / b.count in
    let i = rest % b.count in
    let many = b.least - before in
    let split : k * b.count + i ≡ rest = omega (arith, div-add-mod rest b.count) in
    let last : before + many ≡ b.least = omega arith in
    let end : places_of weights b.least ≡ b.first + many * b.count = sym (ap (places_of weights) last) ∙ places_of-block weights before many b is (omega arith) in
    let within : k < many = (div-lt_iff_lt-mul {x = rest} {y = many} some).1 (omega (arith, end)) in
    let round : round_of weights (before + k + 1) ≡ round_of weights b.least = is.same (before + k + 1) (omega arith) (omega arith) in
    let inside : i < b.count = omega arith in
    round_at weights (before + k) i place (omega arith) (omega (arith, places_of-block weights before k b is (omega arith), split)) (omega (arith, ap length round, is.count, inside))
    ∙ ap (λ list. get_or list i 0) round

-- the rounds before the next block are those up to the last of a block
pub rounds_before-next : (blocks : List Block) (i : ℕ) (d : Block) → i < length blocks → rounds_before blocks (i + 1) ≡ (get_or blocks i d).least
rounds_before-next blocks i d lt =
    let next : i + 1 ≡ suc i = omega arith in
    ap (rounds_before blocks) next ∙ get_or-map (λ (b : Block). b.least) blocks i d 0 lt

some_block : Block
some_block = record { first = 0; least = 0; count = 0 }

-- each block has some rounds
rounds_add : (weights : List ℕ) (last : ℕ) (blocks : List Block) (i k : ℕ) → AreBlocksUpTo weights last blocks → i + k ≤ length blocks → rounds_before blocks i ≤ rounds_before blocks (i + k)
rounds_add weights last blocks i zero are le =
    let at : i + 0 ≡ i = omega arith in
    omega (arith, ap (rounds_before blocks) at)
rounds_add weights last blocks i (suc k) are le =
    let at : i + suc k ≡ i + k + 1 = omega arith in
    let is = are.each (i + k) some_block (omega arith) in
    omega (
      arith,
      ap (rounds_before blocks) at,
      rounds_before-next blocks (i + k) some_block (omega arith),
      is.some_round,
      rounds_add weights last blocks i k are (omega arith),
    )

rounds_rise : (weights : List ℕ) (last : ℕ) (blocks : List Block) (i j : ℕ) → AreBlocksUpTo weights last blocks → i ≤ j → j ≤ length blocks → rounds_before blocks i ≤ rounds_before blocks j
rounds_rise weights last blocks i j are le lt =
    let at : i + (j - i) ≡ j = omega arith in
    omega (arith, ap (rounds_before blocks) at, rounds_add weights last blocks i (j - i) are (omega arith))

-- a cycle with places has a block
blocks_some : (weights : List ℕ) (blocks : List Block) → AreBlocksOf weights blocks → 0 < sum weights → 0 < length blocks
blocks_some weights blocks are some =
    elim (cases_lt 0 (length blocks)) [
      | inl more ↦ more
      | inr none ↦
          let empty : length blocks ≡ 0 = omega arith in
          let end : greatest_weight weights ≡ 0 = sym are.whole ∙ ap (rounds_before blocks) empty in
          absurd (omega (arith, places_of-all weights, ap (places_of weights) end))
    ]

-- blocks are in order
pub AreInOrder-blocks : (weights : List ℕ) (blocks : List Block) → AreBlocksOf weights blocks → 0 < sum weights → AreInOrder blocks
AreInOrder-blocks weights blocks are some = record {
  some = blocks_some weights blocks are some;
  start = λ d. (are.each 0 d (blocks_some weights blocks are some)).first;
  ascending = λ i j d le lt.
      let at_i = are.each i d (omega arith) in
      let at_j = are.each j d lt in
      omega (
        arith,
        at_i.first,
        at_j.first,
        places_of-rise weights (rounds_before blocks i) (rounds_before blocks j) (rounds_rise weights (greatest_weight weights) blocks i j are le (omega arith)),
      );
  counts = λ i d lt. (are.each i d lt).some_quorum;
}

-- the quorum at a place of a cycle is the one at the place found in a round of the block found
pub named_in_block : (weights : List ℕ) (blocks : List Block) (place : ℕ) (found : ℕ × ℕ) (d : Block) → AreBlocksOf weights blocks → place < sum weights → IsPlaceIn blocks place found
    → get_or (cycle_of weights) place 0 ≡ get_or (round_of weights (get_or blocks found.0 d).least) found.1 0
named_in_block weights blocks place found d are lt is =
    let i = found.0 in
    let b = get_or blocks i d in
    let block = are.each i d is.in_range in
    let next = rounds_before-next blocks i d is.in_range in
    let most = rounds_rise weights (greatest_weight weights) blocks (i + 1) (length blocks) are (omega (arith, is.in_range)) (omega arith) in
    let ended : place < places_of weights b.least =
    elim (cases_lt (i + 1) (length blocks)) [
      | inl more ↦
          let after = are.each (i + 1) d more in
          omega (arith, is.last (i + 1) d (omega arith) more, after.first, ap (places_of weights) next)
      | inr end ↦
          let last : i + 1 ≡ length blocks = omega (arith, is.in_range) in
          let all : b.least ≡ greatest_weight weights = sym next ∙ ap (rounds_before blocks) last ∙ are.whole in
          omega (arith, ap (places_of weights) all, places_of-all weights)
    ] in
    in_block weights (rounds_before blocks i) place b block (omega (arith, most, next, are.whole)) (is.begun d) ended
    ∙ ap (λ k. get_or (round_of weights b.least) k 0) (sym (is.within d))

-- the blocks before keep their rounds
same_before : (blocks : List Block) (b : Block) (i : ℕ) → i ≤ length blocks → rounds_before (blocks ++ b ∷ []) i ≡ rounds_before blocks i
same_before blocks b i le =
    ap (λ xs. get_or (0 ∷ xs) i 0) (map-append (λ (c : Block). c.least) blocks (b ∷ []))
    ∙ get_or_append_left (0 ∷ map (λ (c : Block). c.least) blocks) (b.least ∷ []) 0 i (omega (arith, length-map blocks (λ (c : Block). c.least)))

-- one block more
pub AreBlocksUpTo-more : (weights : List ℕ) (before : ℕ) (blocks : List Block) (b : Block) → AreBlocksUpTo weights before blocks → IsBlock weights before b
    → AreBlocksUpTo weights b.least (blocks ++ b ∷ [])
AreBlocksUpTo-more weights before blocks b are is =
    let all = blocks ++ b ∷ [] in
    let long : length all ≡ length blocks + 1 = length-append blocks (b ∷ []) in
    record {
      each = λ i d lt.
          elim (cases_lt i (length blocks)) [
            | inl inside ↦
                subst (λ n. IsBlock weights n (get_or all i d)) (sym (same_before blocks b i (omega arith)))
                (subst (λ c. IsBlock weights (rounds_before blocks i) c) (sym (get_or_append_left blocks (b ∷ []) d i inside)) (are.each i d inside))
            | inr outside ↦
                let at : i ≡ length blocks = omega (arith, long) in
                let here : get_or all i d ≡ b = ap (λ k. get_or all k d) at ∙ get_or-append_seam blocks b [] d in
                let rounds : rounds_before all i ≡ before = same_before blocks b i (omega arith) ∙ ap (rounds_before blocks) at ∙ are.whole in
                subst (λ n. IsBlock weights n (get_or all i d)) (sym rounds) (subst (λ c. IsBlock weights before c) (sym here) is)
          ];
      whole =
          ap (rounds_before all) long
          ∙ rounds_before-next all (length blocks) some_block (omega (arith, long))
          ∙ ap (λ (c : Block). c.least) (get_or-append_seam blocks b [] some_block);
    }
