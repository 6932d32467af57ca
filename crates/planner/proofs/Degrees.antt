-- Sums of degrees and of sizes.
use Rattle.std.proofs.Common.{◌≡◌, ℕ, ◌+◌, ◌*◌, ◌<◌, ◌≤◌, cond, List, [], ◌∷◌, length, zero, suc, sum_by, count_by, ap, ◌∙◌, inl, inr, arith}
use Rattle.std.specs.List.{All}
use Rattle.std.proofs.lemmas.Bool.{cases_eq}
use Rattle.std.proofs.lemmas.List.Sums.{sum_by-cons}
use Rattle.std.proofs.lemmas.List.Elements.{All-head, All-tail, All-cons}
use Rattle.numbers.specs.Sets.{has, Ascends}
use Rattle.numbers.specs.Sums.{sum_below}
use Rattle.numbers.proofs.SumsBelow.{sum_below-same, sum_below-zero, sum_below-add, sum_below-members, sum_by-one}

-- the voters' degrees sum to the quorums' sizes
pub sum_below-degrees : (n : ℕ) (qs : List (List ℕ)) → All (Ascends 0 n) qs → sum_below (λ i. count_by (λ q. has q i) qs) n ≡ sum_by length qs
sum_below-degrees n [] h = sum_below-zero n
sum_below-degrees n (q ∷ qs) h =
    let split = sum_below-same n (λ i. count_by (λ q. has q i) (q ∷ qs)) (λ i. cond (has q i) 1 0 + count_by (λ q. has q i) qs)
    (λ i lt. sum_by-cons (λ q. cond (has q i) 1 0) q qs) in
    let added = sum_below-add n (λ i. cond (has q i) 1 0) (λ i. count_by (λ q. has q i) qs) in
    let size = sum_below-members 0 n (λ _. 1) q (All-head (Ascends 0 n) q qs h) ∙ sum_by-one q in
    omega (arith, split, added, size, sum_below-degrees n qs (All-tail (Ascends 0 n) q qs h), sum_by-cons length q qs)

pub sum_below-most : (n m : ℕ) (f : ℕ → ℕ) → ((i : ℕ) → i < n → f i ≤ m) → sum_below f n ≤ n * m
sum_below-most zero m f most = omega arith
sum_below-most (suc n) m f most = omega (arith, most n (omega arith), sum_below-most n m f (λ i lt. most i (omega arith)))

-- where none of n values is above m and they sum to n times m, each is m
pub sum_below-level_from_most : (n m : ℕ) (f : ℕ → ℕ) → ((i : ℕ) → i < n → f i ≤ m) → n * m ≤ sum_below f n → (i : ℕ) → i < n → f i ≡ m
sum_below-level_from_most zero m f most full i lt = absurd (omega arith)
sum_below-level_from_most (suc n) m f most full i lt =
    let last = most n (omega arith) in
    let rest = sum_below-most n m f (λ i lt. most i (omega arith)) in
    elim (cases_eq i n) [
      | inl at ↦ let same = ap f at in omega (arith, same, last, rest, full)
      | inr off ↦ sum_below-level_from_most n m f (λ i lt. most i (omega arith)) (omega (arith, last, full)) i (omega arith)
    ]

pub sum_by-level : (t : ℕ) (qs : List (List ℕ)) → All (λ q. length q ≡ t) qs → sum_by length qs ≡ length qs * t
sum_by-level t [] h = omega arith
sum_by-level t (q ∷ qs) h =
    omega (arith, sum_by-cons length q qs, All-head (λ q. length q ≡ t) q qs h, sum_by-level t qs (All-tail (λ q. length q ≡ t) q qs h))

pub sum_by-least : (t : ℕ) (qs : List (List ℕ)) → All (λ q. t ≤ length q) qs → length qs * t ≤ sum_by length qs
sum_by-least t [] h = omega arith
sum_by-least t (q ∷ qs) h =
    omega (arith, sum_by-cons length q qs, All-head (λ q. t ≤ length q) q qs h, sum_by-least t qs (All-tail (λ q. t ≤ length q) q qs h))

-- where no size is below t and the sizes sum to t times their number, each is t
pub sum_by-level_from_least : (t : ℕ) (qs : List (List ℕ)) → All (λ q. t ≤ length q) qs → sum_by length qs ≤ length qs * t → All (λ q. length q ≡ t) qs
sum_by-level_from_least t [] h full = λ j d lt. absurd (omega arith)
sum_by-level_from_least t (q ∷ qs) h full =
    let first = All-head (λ q. t ≤ length q) q qs h in
    let rest = All-tail (λ q. t ≤ length q) q qs h in
    let sums = sum_by-cons length q qs in
    let at_least = sum_by-least t qs rest in
    let this : length q ≡ t = omega (arith, first, sums, at_least, full) in
    All-cons (λ q. length q ≡ t) q qs this (sum_by-level_from_least t qs rest (omega (arith, first, sums, full)))
