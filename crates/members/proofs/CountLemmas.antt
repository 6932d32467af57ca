-- Ascending numbers that are those below their count, each once, are 0, 1, 2 and so on.
use Rattle.std.proofs.Common.{◌≡◌, ℕ, zero, suc, ◌+◌, ◌<◌, cond, eqb, List, [], ◌∷◌, get_or, length, map, sum_by, refl, ap, sym, ◌∙◌, inl, inr, arith}
use Rattle.std.specs.List.{range_with_len}
use Rattle.std.specs.List.Sorted.{IsNonDecreasing, IsNonDecreasingBy, IsPermutation}
use Rattle.std.proofs.lemmas.Bool.{cases_eq, cases_lt, eq-eqb, ne_eqb}
use Rattle.std.proofs.lemmas.List.{get_or-map, length-map}
use Rattle.std.proofs.lemmas.List.Sorted.{IsPermutation-map, length_permutation, sum_by-IsPermutation}
use Rattle.std.proofs.lemmas.List.Sums.{sum_by-cons}
use Rattle.numbers.specs.Sums.{sum_below, AreAllBelow}
use Rattle.members.specs.Records.{AreInOrder}
use Rattle.numbers.proofs.SumLemmas.{AreAllBelow-from_sums, sum_by-AreAllBelow}

-- 1 where the number is n
abbrev is : ℕ → ℕ → ℕ
is n k = cond (eqb k n) 1 0

is-here : (n k : ℕ) → k ≡ n → is n k ≡ 1
is-here n k e = ap (λ b. cond {A = ℕ} b 1 0) (eq-eqb k n e)

is-elsewhere : (n k : ℕ) → (k ≡ n → ⊥) → is n k ≡ 0
is-elsewhere n k ne = ap (λ b. cond {A = ℕ} b 1 0) (ne_eqb k n ne)

-- sums over a range

range_last : (h : ℕ → ℕ) (a n : ℕ) → sum_by h (range_with_len a (suc n)) ≡ sum_by h (range_with_len a n) + h (a + n)
range_last h a zero = omega (arith, sum_by-cons h a [], ap h (a_zero a))
  where
    a_zero : (a : ℕ) → a + 0 ≡ a
    a_zero a = omega arith
range_last h a (suc n) =
    let place : a + 1 + n ≡ a + suc n = omega arith in
    omega (arith, sum_by-cons h a (range_with_len (a + 1) (suc n)), sum_by-cons h a (range_with_len (a + 1) n), range_last h (a + 1) n, ap h place)

below_range : (h : ℕ → ℕ) (n : ℕ) → sum_below h n ≡ sum_by h (range_with_len 0 n)
below_range h zero = refl
below_range h (suc n) =
    let place : 0 + n ≡ n = omega arith in
    omega (arith, below_range h n, range_last h 0 n, ap h place)

-- a number below a range does not stand in it
range_none : (x a n : ℕ) → x < a → sum_by (is x) (range_with_len a n) ≡ 0
range_none x a zero lt = refl
range_none x a (suc n) lt =
    omega (arith, sum_by-cons (is x) a (range_with_len (a + 1) n), is-elsewhere x a (λ e. omega (arith, e, lt)), range_none x (a + 1) n (omega arith))

-- a number does not stand among greater ones
above_none : (n : ℕ) (xs : List ℕ) → ((i : ℕ) → i < length xs → n < get_or xs i 0) → sum_by (is n) xs ≡ 0
above_none n [] above = refl
above_none n (x ∷ xs) above =
    let first : n < x = above 0 (omega arith) in
    omega (arith, sum_by-cons (is n) x xs, is-elsewhere n x (λ e. omega (arith, e, first)), above_none n xs (λ i lt. above (suc i) (omega arith)))

-- ascending numbers that weigh as much as those from a on, however numbers are weighed
counts_from : (a : ℕ) (xs : List ℕ) → IsNonDecreasing xs → ((h : ℕ → ℕ) → sum_by h xs ≡ sum_by h (range_with_len a (length xs))) → xs ≡ range_with_len a (length xs)
counts_from a [] up all = refl
counts_from a (x ∷ xs) up all =
    let first = starts_at a x xs up all in
    let rest : xs ≡ range_with_len (a + 1) (length xs) =
    counts_from (a + 1) xs (λ i j d le lt. up (suc i) (suc j) d (omega arith) (omega arith))
    (λ h. omega (arith, all h, sum_by-cons h x xs, sum_by-cons h a (range_with_len (a + 1) (length xs)), ap h first)) in
    λ i. first i ∷ rest i
  where
    starts_at : (a x : ℕ) (xs : List ℕ) → IsNonDecreasing (x ∷ xs) → ((h : ℕ → ℕ) → sum_by h (x ∷ xs) ≡ sum_by h (range_with_len a (suc (length xs)))) → x ≡ a
    starts_at a x xs up all = elim (cases_eq x a) [
      | inl same ↦ same
      | inr other ↦ elim (cases_lt x a) [
        | inl less ↦ absurd (omega (arith, all (is x), sum_by-cons (is x) x xs, is-here x x refl, range_none x a (suc (length xs)) less))
        | inr more ↦
            let above : a < x = omega (arith, other, more) in
            let none = above_none a (x ∷ xs) (λ i lt. omega (arith, above, up 0 i 0 (omega arith) lt)) in
            absurd (omega (arith, all (is a), sum_by-cons (is a) a (range_with_len (a + 1) (length xs)), is-here a a refl, none))
      ]
    ]

pub AreInOrder-from_AreAllBelow : (xs : List ℕ) (n : ℕ) → IsNonDecreasing xs → AreAllBelow xs n → length xs ≡ n → AreInOrder xs
AreInOrder-from_AreAllBelow xs n up all long = counts_from 0 xs up (λ h. sum_by-AreAllBelow xs n all h ∙ below_range h n ∙ ap (λ m. sum_by h (range_with_len 0 m)) (sym long))

-- the same of what is ordered by a number
pub AreInOrder-from_AreAllBelow_by : {X : Type 0} (f : X → ℕ) (d : X) (xs ys : List X) (n : ℕ) → IsPermutation xs ys → IsNonDecreasingBy f ys → AreAllBelow (map f xs) n
    → length xs ≡ n → AreInOrder (map f ys)
AreInOrder-from_AreAllBelow_by f d xs ys n same up all long =
    AreInOrder-from_AreAllBelow (map f ys) n ascending
    (AreAllBelow-from_sums (map f ys) n (λ h. sum_by-IsPermutation h _ _ (IsPermutation-map f xs ys same) ∙ sum_by-AreAllBelow (map f xs) n all h))
    (length-map ys f ∙ length_permutation xs ys same ∙ long)
  where
    ascending : IsNonDecreasing (map f ys)
    ascending i j e le lt =
        let inside : j < length ys = omega (arith, lt, length-map ys f) in
        omega (arith, get_or-map f ys i d e (omega (arith, le, inside)), get_or-map f ys j d e inside, up i j d le inside)
