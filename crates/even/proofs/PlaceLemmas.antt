-- What is at the places of a cycle, and how often.
use Rattle.std.proofs.Common.{◌≡◌, ℕ, ◌+◌, ◌-◌, ◌*◌, ◌<◌, ◌≤◌, cond, eqb, List, [], ◌∷◌, ◌++◌, length, get_or, map, replicate, zero, suc, sum, sym, refl, ap, ap₂, ◌∙◌, inl, inr, arith}
use Rattle.std.specs.List.{flat_map, range_with_len}
use Rattle.std.specs.List.Sorted.{IsNonDecreasing}
use Rattle.std.proofs.lemmas.Bool.{cases_eq, cases_lt, eq-eqb, ne_eqb, le-leb, lt-leb}
use Rattle.std.proofs.lemmas.List.{get_or_append_left, get_or-append_right, get_or-replicate, get_or_past, get_or_default, length-append, length-replicate}
use Rattle.std.proofs.lemmas.List.Folds.{sum_by-replicate}
use Rattle.std.proofs.lemmas.List.FromFn.{length-map-range_with_len, get_or-map-range_with_len, map-range_with_len_more}
use Rattle.numbers.specs.Counts.{times}
use Rattle.numbers.specs.Sums.{sum_below}
use Rattle.numbers.proofs.CountLemmas.{flat_map-range_more, times-append, times-get_or}
use Rattle.numbers.proofs.SumsBelow.{sum_below-same, sum_below-list, sum_below-at}
use Rattle.even.specs.EvenCycles.{places_of}
use Rattle.even.specs.Strides.{ends_of}

-- the places of the first n quorums
abbrev places_to : List ℕ → ℕ → List ℕ
places_to weights n = flat_map (λ j. replicate (get_or weights j 0) j) (range_with_len 0 n)

-- the weights of the first n quorums, added up
abbrev weight_to : List ℕ → ℕ → ℕ
weight_to weights n = sum_below (λ k. get_or weights k 0) n

places_to-more : (weights : List ℕ) (n : ℕ) → places_to weights (suc n) ≡ places_to weights n ++ replicate (get_or weights n 0) n
places_to-more weights n = flat_map-range_more (λ j. replicate (get_or weights j 0) j) 0 n n (omega arith)

length-places_to : (weights : List ℕ) (n : ℕ) → length (places_to weights n) ≡ weight_to weights n
length-places_to weights zero = refl
length-places_to weights (suc n) =
    omega (
      arith,
      ap length (places_to-more weights n),
      length-append (places_to weights n) (replicate (get_or weights n 0) n),
      length-replicate (get_or weights n 0) n,
      length-places_to weights n,
    )

times-places_to : (weights : List ℕ) (n j : ℕ) → times j (places_to weights n) ≡ sum_below (λ i. get_or weights i 0 * cond (eqb i j) 1 0) n
times-places_to weights zero j = refl
times-places_to weights (suc n) j =
    omega (
      arith,
      ap (times j) (places_to-more weights n),
      times-append j (places_to weights n) (replicate (get_or weights n 0) n),
      sum_by-replicate (λ k. cond {A = ℕ} (eqb k j) 1 0) (get_or weights n 0) n,
      times-places_to weights n j,
    )

pub weight_to-all : (weights : List ℕ) → weight_to weights (length weights) ≡ sum weights
weight_to-all weights = sum_below-list (λ x. x) weights

weight_to-le : (weights : List ℕ) (m n : ℕ) → m ≤ n → weight_to weights m ≤ weight_to weights n
weight_to-le weights m zero le = let none : m ≡ 0 = omega arith in omega (arith, ap (weight_to weights) none)
weight_to-le weights m (suc n) le =
    elim (cases_eq m (suc n)) [
      | inl at ↦ omega (arith, ap (weight_to weights) at)
      | inr off ↦ omega (arith, weight_to-le weights m n (omega arith))
    ]

-- the weights up to a quorum's are at most all
pub weight_to-fits : (weights : List ℕ) (n : ℕ) → n < length weights → weight_to weights n + get_or weights n 0 ≤ sum weights
weight_to-fits weights n lt = omega (arith, weight_to-le weights (suc n) (length weights) (omega arith), weight_to-all weights)

-- there are as many places as the weights add up to
pub length-places_of : (weights : List ℕ) → length (places_of weights) ≡ sum weights
unfolding places_of
length-places_of weights = length-places_to weights (length weights) ∙ weight_to-all weights

-- each quorum has as many places as its weight says
pub times-places_of : (weights : List ℕ) (j : ℕ) → times j (places_of weights) ≡ get_or weights j 0
unfolding places_of
times-places_of weights j =
    let n = length weights in
    let f : ℕ → ℕ = λ i. get_or weights i 0 in
    let turned = sum_below-same n (λ i. f i * cond (eqb i j) 1 0) (λ i. f i * cond (eqb j i) 1 0) (λ i lt. ap (λ x. f i * x) (turn i j)) in
    let whole = sum_below-at n j f in
    elim (cases_lt j n) [
      | inl inside ↦ omega (arith, times-places_to weights n j, turned, whole, ap (λ b. cond b (f j) 0) (lt-leb n j inside))
      | inr outside ↦
          omega (arith, times-places_to weights n j, turned, whole, ap (λ b. cond b (f j) 0) (le-leb n j outside), get_or_past weights j 0 outside)
    ]
  where
    turn : (i j : ℕ) → cond {A = ℕ} (eqb i j) 1 0 ≡ cond {A = ℕ} (eqb j i) 1 0
    turn i j =
        elim (cases_eq i j) [
          | inl at ↦ omega (arith, ap (λ b. cond {A = ℕ} b 1 0) (eq-eqb i j at), ap (λ b. cond {A = ℕ} b 1 0) (eq-eqb j i (sym at)))
          | inr off ↦ omega (arith, ap (λ b. cond {A = ℕ} b 1 0) (ne_eqb i j off), ap (λ b. cond {A = ℕ} b 1 0) (ne_eqb j i (λ at. off (sym at))))
        ]

-- no place has a quorum that there is not
pub places_of-lt : (weights : List ℕ) (p : ℕ) → p < sum weights → get_or (places_of weights) p 0 < length weights
places_of-lt weights p lt =
    let j = get_or (places_of weights) p 0 in
    let once = times-get_or (places_of weights) p (omega (arith, length-places_of weights, lt)) in
    elim (cases_lt j (length weights)) [
      | inl inside ↦ inside
      | inr outside ↦ absurd (omega (arith, once, times-places_of weights j, get_or_past weights j 0 outside))
    ]

-- the quorum at a place, by the weights before it
place_to-at : (weights : List ℕ) (n j p : ℕ) → j < n → weight_to weights j ≤ p → p < weight_to weights (suc j) → get_or (places_to weights n) p 0 ≡ j
place_to-at weights zero j p lt low high = absurd (omega arith)
place_to-at weights (suc n) j p lt low high =
    let before = places_to weights n in
    let last = replicate (get_or weights n 0) n in
    let long = length-places_to weights n in
    ap (λ list. get_or list p 0) (places_to-more weights n)
    ∙ elim (cases_eq j n) as (λ _. get_or (before ++ last) p 0 ≡ j) [
      | inl at ↦
          let to = ap (weight_to weights) at in
          let w = ap (λ k. get_or weights k 0) at in
          get_or-append_right before last (length before) p 0 refl (omega (arith, long, to, low))
          ∙ get_or-replicate (get_or weights n 0) (p - length before) n 0 (omega (arith, long, to, w, low, high))
          ∙ sym at
      | inr off ↦
          get_or_append_left before last 0 p (omega (arith, long, high, weight_to-le weights (suc j) n (omega arith)))
          ∙ place_to-at weights n j p (omega arith) low high
    ]

-- Where places end

pub length-ends_of : (weights : List ℕ) → length (ends_of weights) ≡ length weights
length-ends_of weights = length-map-range_with_len (λ j. weight_to weights (j + 1)) 0 (length weights)

get_or-ends_of : (weights : List ℕ) (j : ℕ) → j < length weights → get_or (ends_of weights) j 0 ≡ weight_to weights (j + 1)
get_or-ends_of weights j lt = get_or-map-range_with_len (λ j. weight_to weights (j + 1)) 0 (length weights) j j 0 lt (omega arith)

-- places end in ascending order
pub IsNonDecreasing-ends_of : (weights : List ℕ) → IsNonDecreasing (ends_of weights)
IsNonDecreasing-ends_of weights = λ i j d le lt.
    let long = length-ends_of weights in
    let at_i = get_or_default (ends_of weights) i d 0 (omega arith) ∙ get_or-ends_of weights i (omega arith) in
    let at_j = get_or_default (ends_of weights) j d 0 lt ∙ get_or-ends_of weights j (omega arith) in
    omega (arith, at_i, at_j, weight_to-le weights (i + 1) (j + 1) (omega arith))

-- the search finds the quorum of a place
pub place_of-search : (ends : List ℕ) (place found : ℕ) (weights : List ℕ) → ends ≡ ends_of weights → place < sum weights → found ≤ length ends
    → ((k : ℕ) → k < found → get_or ends k 0 ≤ place) → ((k : ℕ) → found ≤ k → k < length ends → place < get_or ends k 0)
    → (found < length weights) × (found ≡ get_or (places_of weights) place 0)
unfolding places_of
place_of-search ends place found weights is lt bound ended later =
    let long = ap length is ∙ length-ends_of weights in
    let n = length weights in
    let low : weight_to weights found ≤ place = elim (cases_lt 0 found) [
      | inl some ↦
          let k : ℕ = found - 1 in
          let next : k + 1 ≡ found = omega arith in
          let at = ap (λ list. get_or list k 0) is ∙ get_or-ends_of weights k (omega (arith, long)) in
          omega (arith, at, ended k (omega arith), ap (weight_to weights) next)
      | inr none ↦
          let zeroed : found ≡ 0 = omega arith in
          omega (arith, ap (weight_to weights) zeroed)
    ] in
    let inside : found < n = elim (cases_lt found n) [
      | inl less ↦ less
      | inr all ↦
          let at : found ≡ n = omega (arith, long, bound, all) in
          absurd (omega (arith, low, ap (weight_to weights) at, weight_to-all weights, lt))
    ] in
    let here = ap (λ list. get_or list found 0) is ∙ get_or-ends_of weights found inside in
    let next : suc found ≡ found + 1 = omega arith in
    let high : place < weight_to weights (suc found) = omega (arith, later found (omega arith) (omega (arith, long, inside)), here, ap (weight_to weights) next) in
    (inside, sym (place_to-at weights n found place inside low high))

-- one end more
pub ends-more : (weights ends pushed : List ℕ) (n end : ℕ) → ends ≡ map (λ j. weight_to weights (j + 1)) (range_with_len 0 n) → end ≡ weight_to weights (n + 1) → pushed ≡ ends ++ end ∷ []
    → pushed ≡ map (λ j. weight_to weights (j + 1)) (range_with_len 0 (n + 1))
ends-more weights ends pushed n end made here more =
    more ∙ ap₂ (λ (xs : List ℕ) (x : ℕ). xs ++ x ∷ []) made here ∙ sym (map-range_with_len_more (λ j. weight_to weights (j + 1)) 0 n n (omega arith))
