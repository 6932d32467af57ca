-- How often a number is among ascending ones.
use Rattle.std.proofs.Common.{◌≡◌, ℕ, ◌+◌, ◌-◌, ◌<◌, ◌≤◌, cond, eqb, leb, sum_by, List, [], ◌∷◌, length, get_or, drop, suc, refl, ap, ◌∙◌, subst, sym, inl, inr, arith}
use Rattle.std.specs.List.Sorted.{IsNonDecreasing}
use Rattle.std.proofs.lemmas.Bool.{cases_eq, cases_lt, eq-eqb, le-leb, ne_eqb}
use Rattle.std.proofs.lemmas.List.{get_or-drop, length-drop}
use Rattle.std.proofs.lemmas.List.Sums.{count_by-le-length, sum_by-cons, sum_by-drop_more}
use Rattle.numbers.specs.Counts.{times}
use Rattle.numbers.proofs.CountLemmas.{times-cons, times-get_or}
use Rattle.numbers.proofs.SumsBelow.{length-sum_below, sum_below-one, sum_below-same}
use Rattle.replay.specs.Records.{EachOnce, IsLeast, IsMissing, IsTwice, NoneTwice}

-- a number does not stand where all are above it
times-above : (n : ℕ) (xs : List ℕ) → ((i : ℕ) → i < length xs → n < get_or xs i 0) → times n xs ≡ 0
times-above n [] h = refl
times-above n (x ∷ xs) h =
    let first : n < x = h 0 (omega arith) in
    omega (arith, times-cons n x xs, ap (λ b. cond {A = ℕ} b 1 0) (ne_eqb x n (λ e. omega arith)), times-above n xs (λ i lt. h (suc i) (omega arith)))

-- the same from a place on
times-above_from : (n p : ℕ) (xs : List ℕ) → ((i : ℕ) → p ≤ i → i < length xs → n < get_or xs i 0) → times n (drop p xs) ≡ 0
times-above_from n p xs h = times-above n (drop p xs) (λ i lt. omega (arith, h (p + i) (omega arith) (omega (arith, length-drop p xs, lt)), get_or-drop p xs i 0))

times-drop_more : (n p : ℕ) (xs : List ℕ) → p < length xs → times n (drop p xs) ≡ cond (eqb (get_or xs p 0) n) 1 0 + times n (drop (p + 1) xs)
times-drop_more n p xs lt = sum_by-drop_more (λ k. cond (eqb k n) 1 0) xs p 0 lt

cond_eqb-same : (x n : ℕ) → x ≡ n → cond {A = ℕ} (eqb x n) 1 0 ≡ 1
cond_eqb-same x n e = ap (λ b. cond {A = ℕ} b 1 0) (eq-eqb x n e)

cond_eqb-other : (x n : ℕ) → (x ≡ n → ⊥) → cond {A = ℕ} (eqb x n) 1 0 ≡ 0
cond_eqb-other x n ne = ap (λ b. cond {A = ℕ} b 1 0) (ne_eqb x n ne)

-- What is there twice

-- what is there twice is there twice from this place on
pub record IsLeftTwice (xs : List ℕ) (p : ℕ) : Type 0 where
  pub left : (n : ℕ) → 2 ≤ times n xs → 2 ≤ times n (drop p xs)
  pub within : (n : ℕ) → times n (drop p xs) ≤ times n xs

pub IsLeftTwice-more : (xs : List ℕ) (p : ℕ) → IsNonDecreasing xs → IsLeftTwice xs p → p + 1 < length xs → (get_or xs p 0 ≡ get_or xs (p + 1) 0 → ⊥) → IsLeftTwice xs (p + 1)
IsLeftTwice-more xs p up so_far lt apart = record {
  left = λ n h. elim (cases_eq (get_or xs p 0) n) [
    | inl same ↦
        let none = times-above_from n (p + 1) xs (λ i le below. omega (arith, same, apart_lt, up (p + 1) i 0 le below)) in
        absurd (omega (arith, so_far.left n h, times-drop_more n p xs (omega arith), cond_eqb-same (get_or xs p 0) n same, none))
    | inr other ↦ omega (arith, so_far.left n h, times-drop_more n p xs (omega arith), cond_eqb-other (get_or xs p 0) n other)
  ];
  within = λ n. omega (arith, so_far.within n, times-drop_more n p xs (omega arith));
}
  where
    apart_lt : get_or xs p 0 < get_or xs (p + 1) 0
    apart_lt = let le = up p (p + 1) 0 (omega arith) lt in
        elim (cases_lt (get_or xs p 0) (get_or xs (p + 1) 0)) [
          | inl less ↦ less
          | inr more ↦ absurd (apart (omega arith))
        ]

pub IsTwice-found : (xs : List ℕ) (p : ℕ) → IsNonDecreasing xs → IsLeftTwice xs p → p + 1 < length xs → get_or xs p 0 ≡ get_or xs (p + 1) 0 → IsLeast (IsTwice xs) (get_or xs p 0)
IsTwice-found xs p up so_far lt same =
    let x = get_or xs p 0 in (
      omega (arith, so_far.within x, times-drop_more x p xs (omega arith), times-drop_more x (p + 1) xs lt, cond_eqb-same x x refl, cond_eqb-same (get_or xs (p + 1) 0) x (sym same)),
      λ m twice. elim (cases_lt m x) [
        | inl less ↦ absurd (omega (arith, so_far.left m twice, times-above_from m p xs (λ i le below. omega (arith, less, up p i 0 le below))))
        | inr more ↦ more
      ],
    )

pub NoneTwice-end : (xs : List ℕ) (p : ℕ) → IsLeftTwice xs p → length xs ≤ p + 1 → NoneTwice xs
NoneTwice-end xs p so_far le = λ n twice. omega (arith, so_far.left n twice, count_by-le-length (λ k. eqb k n) (drop p xs), length-drop p xs)

-- What is missing

-- the numbers below this place stand before it, and those from it on stand behind it
pub record IsCounted (xs : List ℕ) (p : ℕ) : Type 0 where
  pub seen : (n : ℕ) → n < p → 1 ≤ times n xs
  pub left : (n : ℕ) → p ≤ n → times n xs ≡ times n (drop p xs)
  pub low : (i : ℕ) → p ≤ i → i < length xs → p ≤ get_or xs i 0

pub IsCounted-more : (xs : List ℕ) (p : ℕ) → IsNonDecreasing xs → NoneTwice xs → IsCounted xs p → p < length xs → get_or xs p 0 ≡ p → IsCounted xs (p + 1)
IsCounted-more xs p up single so_far lt at = record {
  seen = λ n below. elim (cases_lt n p) [
    | inl less ↦ so_far.seen n less
    | inr more ↦ subst (λ x. 1 ≤ times x xs) (omega arith) present
  ];
  left = λ n le. omega (arith, so_far.left n (omega arith), times-drop_more n p xs lt, cond_eqb-other (get_or xs p 0) n (λ e. omega arith));
  low = λ i le below. elim (cases_eq (get_or xs i 0) p) [
    | inl same ↦ absurd (single p (omega (arith, so_far.left p (omega arith), times-drop_more p p xs lt, cond_eqb-same (get_or xs p 0) p at, again i le below same)))
    | inr other ↦ above i other (omega (arith, up p i 0 (omega arith) below))
  ];
}
  where
    present : 1 ≤ times p xs
    present = omega (arith, so_far.left p (omega arith), times-drop_more p p xs lt, cond_eqb-same (get_or xs p 0) p at)

    again : (i : ℕ) → p + 1 ≤ i → i < length xs → get_or xs i 0 ≡ p → 1 ≤ times p (drop (p + 1) xs)
    again i le below same =
        let rest = drop (p + 1) xs in
        let place : p + 1 + (i - (p + 1)) ≡ i = omega arith in
        let value : get_or rest (i - (p + 1)) 0 ≡ p = get_or-drop (p + 1) xs (i - (p + 1)) 0 ∙ ap (λ k. get_or xs k 0) place ∙ same in
        subst (λ x. 0 < times x rest) value (times-get_or rest (i - (p + 1)) (omega (arith, length-drop (p + 1) xs)))

    above : (i : ℕ) → (get_or xs i 0 ≡ p → ⊥) → p ≤ get_or xs i 0 → p + 1 ≤ get_or xs i 0
    above i other le = elim (cases_lt p (get_or xs i 0)) [
      | inl less ↦ omega arith
      | inr more ↦ absurd (other (omega arith))
    ]

pub IsMissing-found : (xs : List ℕ) (p : ℕ) → IsNonDecreasing xs → IsCounted xs p → p < length xs → (get_or xs p 0 ≡ p → ⊥) → IsLeast (IsMissing xs) p
IsMissing-found xs p up so_far lt other =
    let low = so_far.low p (omega arith) lt in
    let none = times-above_from p p xs (λ i le below. omega (arith, above low, up p i 0 le below)) in (
      (lt, so_far.left p (omega arith) ∙ none),
      λ m missing. elim (cases_lt m p) [
        | inl less ↦ absurd (omega (arith, so_far.seen m less, missing.1))
        | inr more ↦ more
      ],
    )
  where
    above : p ≤ get_or xs p 0 → p < get_or xs p 0
    above low = elim (cases_lt p (get_or xs p 0)) [
      | inl less ↦ less
      | inr more ↦ absurd (other (omega arith))
    ]

pub EachOnce-end : (xs : List ℕ) (p : ℕ) → NoneTwice xs → IsCounted xs p → length xs ≤ p → EachOnce xs
EachOnce-end xs p single so_far le = record {
  in_all = refl;
  each_once = λ n lt. elim (cases_lt (times n xs) 2) [
    | inl less ↦ omega (arith, so_far.seen n (omega arith))
    | inr more ↦ absurd (single n more)
  ];
}

-- The same of numbers in another order

pub IsTwice-same : (xs ys : List ℕ) (n : ℕ) → ((m : ℕ) → times m xs ≡ times m ys) → IsLeast (IsTwice xs) n → IsLeast (IsTwice ys) n
IsTwice-same xs ys n same least = (omega (arith, same n, least.0), λ m twice. least.1 m (omega (arith, same m, twice)))

pub NoneTwice-same : (xs ys : List ℕ) → ((m : ℕ) → times m xs ≡ times m ys) → NoneTwice xs → NoneTwice ys
NoneTwice-same xs ys same none = λ n twice. none n (omega (arith, same n, twice))

pub IsMissing-same : (xs ys : List ℕ) (n : ℕ) → ((m : ℕ) → times m xs ≡ times m ys) → length xs ≡ length ys → IsLeast (IsMissing xs) n → IsLeast (IsMissing ys) n
IsMissing-same xs ys n same long least =
    ((omega (arith, least.0.0), omega (arith, same n, least.0.1)), λ m missing. least.1 m (omega (arith, missing.0), omega (arith, same m, missing.1)))

pub EachOnce-same : (xs ys : List ℕ) → ((m : ℕ) → times m xs ≡ times m ys) → length xs ≡ length ys → EachOnce xs → EachOnce ys
EachOnce-same xs ys same long counts = record { in_all = refl; each_once = λ n lt. omega (arith, same n, counts.each_once n (omega arith)) }

-- Numbers that count up

-- whatever is among them is there once
pub NoneTwice-EachOnce : (ns : List ℕ) → EachOnce ns → NoneTwice ns
NoneTwice-EachOnce ns counts = λ n twice. elim (cases_lt n (length ns)) [
  | inl less ↦ omega (arith, counts.each_once n less)
  | inr more ↦
      let size = length ns in
      let none : sum_by (λ x. cond (leb size x) 1 0) ns ≡ 0 =
      omega (arith, length-sum_below size ns, sum_below-same size (λ y. times y ns) (λ y. 1) counts.each_once, sum_below-one size) in
      omega (arith, present_above size n ns more none)
]
  where
    present_above : (size n : ℕ) (xs : List ℕ) → size ≤ n → sum_by (λ x. cond (leb size x) 1 0) xs ≡ 0 → times n xs ≡ 0
    present_above size n [] le none = refl
    present_above size n (x ∷ xs) le none =
        let added = sum_by-cons (λ z. cond (leb size z) 1 0) x xs in
        elim (cases_eq x n) [
          | inl same ↦ let one = ap (λ b. cond {A = ℕ} b 1 0) (le-leb size x (omega arith)) in absurd (omega (arith, added, one))
          | inr other ↦ omega (arith, times-cons n x xs, cond_eqb-other x n other, present_above size n xs le (omega (arith, added)))
        ]

pub IsMissing-EachOnce : (ns : List ℕ) (n : ℕ) → EachOnce ns → ¬ (IsMissing ns n)
IsMissing-EachOnce ns n counts missing = omega (arith, counts.each_once n missing.0, missing.1)
