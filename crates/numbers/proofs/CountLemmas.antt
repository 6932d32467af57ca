-- How often a number is in a list, and greatest values.
use Rattle.std.proofs.Common.{◌≡◌, ℕ, ◌+◌, ◌<◌, ◌≤◌, Bool, true, false, cond, eqb, leb, List, [], ◌∷◌, ◌++◌, length, get_or, zero, suc, take, min, sum_by, filter, sym, refl, ap, ◌∙◌, inl, inr, arith}
use Rattle.std.specs.List.{All, flat_map, range_with_len}
use Rattle.std.proofs.lemmas.Bool.{cases_Bool, cases_eq, cases_lt, eq-eqb, ne_eqb, lt-leb, false_from_ne_true, both_ways}
use Rattle.std.proofs.lemmas.List.{append-nil, append_assoc}
use Rattle.std.specs.List.Sorted.{IsPermutation}
use Rattle.std.proofs.lemmas.List.FromFn.{length-range_with_len}
use Rattle.std.proofs.lemmas.List.Sorted.{sum_by-IsPermutation}
use Rattle.std.proofs.lemmas.List.Sums.{sum_by-cons, sum_by-append}
use native.Mathlib.Numerals.{unary_clauses}
use Rattle.numbers.specs.Counts.{greatest_below, least_of, times}
use Rattle.numbers.proofs.SumsBelow.{sum_by-one}

pub times-cons : (j x : ℕ) (xs : List ℕ) → times j (x ∷ xs) ≡ cond (eqb x j) 1 0 + times j xs
times-cons j x xs = sum_by-cons (λ k. cond (eqb k j) 1 0) x xs

pub times-append : (j : ℕ) (xs ys : List ℕ) → times j (xs ++ ys) ≡ times j xs + times j ys
times-append j xs ys = sum_by-append (λ k. cond (eqb k j) 1 0) xs ys

-- a number below a range is not among those of the range that pass
pub times-filter_below : (p : ℕ → Bool) (a n j : ℕ) → j < a → times j (filter p (range_with_len a n)) ≡ 0
times-filter_below p a zero j lt = refl
times-filter_below p a (suc n) j lt =
    let rest = times-filter_below p (a + 1) n j (omega arith) in
    let off = ap (λ b. cond {A = ℕ} b 1 0) (ne_eqb a j (λ e. omega arith)) in
    elim (p a) as (λ b. times j (cond b (a ∷ filter p (range_with_len (a + 1) n)) (filter p (range_with_len (a + 1) n))) ≡ 0) [
      | true ↦ omega (arith, times-cons j a (filter p (range_with_len (a + 1) n)), off, rest)
      | false ↦ rest
    ]

-- a number of a range is among those that pass once, if it passes
pub times-filter : (p : ℕ → Bool) (a n j : ℕ) → a ≤ j → j < a + n → times j (filter p (range_with_len a n)) ≡ cond {A = ℕ} (p j) 1 0
times-filter p a zero j le lt = absurd (omega arith)
times-filter p a (suc n) j le lt =
    let rest = filter p (range_with_len (a + 1) n) in
    elim (cases_eq a j) as (λ _. times j (cond (p a) (a ∷ rest) rest) ≡ cond {A = ℕ} (p j) 1 0) [
      | inl at ↦
          ap (λ b. times j (cond b (a ∷ rest) rest)) (ap p at)
          ∙ times_first (p j) a j rest (ap (λ b. cond {A = ℕ} b 1 0) (eq-eqb a j at)) (times-filter_below p (a + 1) n j (omega arith))
      | inr off ↦
          times_later (p a) a j rest (ap (λ b. cond {A = ℕ} b 1 0) (ne_eqb a j off))
          ∙ times-filter p (a + 1) n j (omega arith) (omega arith)
    ]
  where
    times_first : (b : Bool) (a j : ℕ) (rest : List ℕ) → cond {A = ℕ} (eqb a j) 1 0 ≡ 1 → times j rest ≡ 0 → times j (cond b (a ∷ rest) rest) ≡ cond {A = ℕ} b 1 0
    times_first true a j rest here none = omega (arith, times-cons j a rest)
    times_first false a j rest here none = none

    times_later : (b : Bool) (a j : ℕ) (rest : List ℕ) → cond {A = ℕ} (eqb a j) 1 0 ≡ 0 → times j (cond b (a ∷ rest) rest) ≡ times j rest
    times_later true a j rest off = omega (arith, times-cons j a rest)
    times_later false a j rest off = refl

-- no number past a range is among those that pass
pub times-filter_above : (p : ℕ → Bool) (a n j : ℕ) → a + n ≤ j → times j (filter p (range_with_len a n)) ≡ 0
times-filter_above p a zero j le = refl
times-filter_above p a (suc n) j le =
    let rest = times-filter_above p (a + 1) n j (omega arith) in
    let off = ap (λ b. cond {A = ℕ} b 1 0) (ne_eqb a j (λ e. omega arith)) in
    elim (p a) as (λ b. times j (cond b (a ∷ filter p (range_with_len (a + 1) n)) (filter p (range_with_len (a + 1) n))) ≡ 0) [
      | true ↦ omega (arith, times-cons j a (filter p (range_with_len (a + 1) n)), off, rest)
      | false ↦ rest
    ]

pub greatest_below-le : (n : ℕ) (f : ℕ → ℕ) (i : ℕ) → i < n → f i ≤ greatest_below n f
greatest_below-le zero f i lt = absurd (omega arith)
greatest_below-le (suc n) f i lt =
    elim (cases_eq i n) as (λ _. f i ≤ greatest_below (suc n) f) [
      | inl at ↦ let e : f i ≡ f n = ap f at in omega (arith, e)
      | inr off ↦ omega (arith, greatest_below-le n f i (omega arith))
    ]

-- it is one of the values
pub greatest_below-reached : (n : ℕ) (f : ℕ → ℕ) → 0 < n → (i : ℕ) × (i < n) × (greatest_below n f ≡ f i)
greatest_below-reached zero f some = absurd (omega arith)
greatest_below-reached (suc n) f some =
    elim (cases_lt (f n) (greatest_below n f)) [
      | inl less ↦
          elim (cases_lt 0 n) [
            | inl more ↦
                let found = greatest_below-reached n f more in
                (found.0, omega (arith, found.1), omega (arith, found.2, less))
            | inr none ↦ let at : greatest_below n f ≡ 0 = ap (λ m. greatest_below m f) (only n none) in absurd (omega (arith, at, less))
          ]
      | inr last ↦ (n, omega arith, omega (arith, last))
    ]
  where
    only : (n : ℕ) → n ≤ 0 → n ≡ 0
    only n le = omega arith

pub greatest_below-bound : (n : ℕ) (f : ℕ → ℕ) (m : ℕ) → ((i : ℕ) → i < n → f i ≤ m) → greatest_below n f ≤ m
greatest_below-bound zero f m most = omega arith
greatest_below-bound (suc n) f m most =
    omega (arith, greatest_below-bound n f m (λ i lt. most i (omega arith)), most n (omega arith))

-- a list in which no number from n on stands
pub sum_by-none_above : (n : ℕ) (list : List ℕ) → ((j : ℕ) → n ≤ j → times j list ≡ 0) → sum_by (λ x. cond (leb n x) 1 0) list ≡ 0
sum_by-none_above n [] none = refl
sum_by-none_above n (x ∷ xs) none =
    let rest = sum_by-none_above n xs (λ j le. omega (arith, times-cons j x xs, none j le)) in
    let count = sum_by-cons (λ z. cond (leb n z) 1 0) x xs in
    elim (cases_lt x n) as (λ _. sum_by (λ z. cond (leb n z) 1 0) (x ∷ xs) ≡ 0) [
      | inl below ↦ let here = ap (λ b. cond {A = ℕ} b 1 0) (lt-leb n x below) in omega (arith, count, here, rest)
      | inr above ↦
          let here = ap (λ b. cond {A = ℕ} b 1 0) (eq-eqb x x refl) in
          absurd (omega (arith, none x above, times-cons x x xs, here))
    ]

-- a member of a list is in it at least once
pub times-get_or : (list : List ℕ) (i : ℕ) → i < length list → 0 < times (get_or list i 0) list
times-get_or [] i lt = absurd (omega arith)
times-get_or (x ∷ xs) zero lt =
    omega (arith, times-cons x x xs, ap (λ b. cond {A = ℕ} b 1 0) (eq-eqb x x refl))
times-get_or (x ∷ xs) (suc i) lt = omega (arith, times-cons (get_or xs i 0) x xs, times-get_or xs i (omega arith))

-- what passes each time is all
pub filter-all : (p : ℕ → Bool) (xs : List ℕ) → ((x : ℕ) → p x ≡ true) → filter p xs ≡ xs
filter-all p [] all = refl
filter-all p (x ∷ xs) all = ap (λ b. cond b (x ∷ filter p xs) (filter p xs)) (all x) ∙ ap (λ ys. x ∷ ys) (filter-all p xs all)

pub filter-filter : {X : Type 0} (p q : X → Bool) (xs : List X) → ((x : X) → q x ≡ true → p x ≡ true) → filter q (filter p xs) ≡ filter q xs
filter-filter p q [] implies = refl
filter-filter p q (x ∷ xs) implies =
    let rest = filter-filter p q xs implies in
    elim (cases_Bool (p x)) as (λ _. filter q (filter p (x ∷ xs)) ≡ filter q (x ∷ xs)) [
      | inl passes ↦
          ap (λ b. filter q (cond b (x ∷ filter p xs) (filter p xs))) passes
          ∙ ap (λ ys. cond (q x) (x ∷ ys) ys) rest
      | inr fails ↦
          let off : q x ≡ false = false_from_ne_true (q x) (λ e. both_ways (p x) fails (implies x e)) in
          ap (λ b. filter q (cond b (x ∷ filter p xs) (filter p xs))) fails
          ∙ rest ∙ sym (ap (λ b. cond b (x ∷ filter q xs) (filter q xs)) off)
    ]

pub flat_map-range_more : (f : ℕ → List ℕ) (a n j : ℕ) → a + n ≡ j → flat_map f (range_with_len a (suc n)) ≡ flat_map f (range_with_len a n) ++ f j
flat_map-range_more f a zero j e = let at : a ≡ j = omega arith in append-nil (f a) ∙ ap f at
flat_map-range_more f a (suc n) j e =
    ap (λ xs. f a ++ xs) (flat_map-range_more f (a + 1) n j (omega arith))
    ∙ sym (append_assoc (f a) (flat_map f (range_with_len (a + 1) n)) (f j))

-- a number stands once among those below a bound above it
pub times-range : (n j : ℕ) → j < n → times j (range_with_len 0 n) ≡ 1
times-range n j lt =
    ap (times j) (sym (filter-all (λ x. true) (range_with_len 0 n) (λ x. refl))) ∙ times-filter (λ x. true) 0 n j (omega arith) (omega arith)

-- the same in any order
pub times-permuted : (n j : ℕ) (list : List ℕ) → IsPermutation (range_with_len 0 n) list → j < n → times j list ≡ 1
times-permuted n j list permuted lt =
    sum_by-IsPermutation (λ k. cond (eqb k j) 1 0) (range_with_len 0 n) list permuted ∙ times-range n j lt

pub length-permuted : (n : ℕ) (list : List ℕ) → IsPermutation (range_with_len 0 n) list → length list ≡ n
length-permuted n list permuted =
    omega (
      arith,
      sum_by-IsPermutation (λ k. 1) (range_with_len 0 n) list permuted,
      sum_by-one list,
      sum_by-one (range_with_len 0 n),
      length-range_with_len 0 n,
    )

-- Least values

min_assoc : (a b c : ℕ) → min (min a b) c ≡ min a (min b c)
min_assoc a b c = omega arith

pub least_of-more : (f : List ℕ → ℕ) (qs : List (List ℕ)) (j : ℕ) (d : List ℕ) → 0 < j → j < length qs → least_of f (take (j + 1) qs) ≡ min (least_of f (take j qs)) (f (get_or qs j d))
least_of-more f [] j d some lt = absurd (omega arith)
least_of-more f (q ∷ []) j d some lt = absurd (omega arith)
least_of-more f (q ∷ r ∷ qs) zero d some lt = absurd (omega arith)
least_of-more f (q ∷ r ∷ qs) (suc zero) d some lt = refl
least_of-more f (q ∷ r ∷ qs) (suc (suc j)) d some lt =
    let rest = simp unary_clauses at (least_of-more f (r ∷ qs) (suc j) d (omega arith) (omega arith)) in
    simp unary_clauses (ap (min (f q)) rest ∙ sym (min_assoc (f q) (least_of f (r ∷ take j qs)) (f (get_or qs j d))))

pub least_of-le : (f : List ℕ → ℕ) (qs : List (List ℕ)) (j : ℕ) (d : List ℕ) → j < length qs → least_of f qs ≤ f (get_or qs j d)
least_of-le f [] j d lt = absurd (omega arith)
least_of-le f (q ∷ []) zero d lt = omega arith
least_of-le f (q ∷ []) (suc j) d lt = absurd (omega arith)
least_of-le f (q ∷ r ∷ qs) zero d lt = omega arith
least_of-le f (q ∷ r ∷ qs) (suc j) d lt = omega (arith, least_of-le f (r ∷ qs) j d (omega arith))

-- the smallest value is one of the values
pub least_of-reached : (f : List ℕ → ℕ) (qs : List (List ℕ)) → 0 < length qs → (k : ℕ) × (k < length qs) × (least_of f qs ≡ f (get_or qs k []))
least_of-reached f [] some = absurd (omega arith)
least_of-reached f (q ∷ []) some = (0, omega arith, refl)
least_of-reached f (q ∷ r ∷ qs) some =
    let found = least_of-reached f (r ∷ qs) (omega arith) in
    elim (cases_lt (f q) (least_of f (r ∷ qs))) [
      | inl less ↦ (0, omega arith, omega (arith, less))
      | inr more ↦ (suc found.0, omega (arith, found.1), omega (arith, more, found.2))
    ]

-- all values are t
pub least_of-level : (f : List ℕ → ℕ) (qs : List (List ℕ)) (t : ℕ) → 0 < length qs → All (λ q. f q ≡ t) qs → least_of f qs ≡ t
least_of-level f qs t some level =
    let found = least_of-reached f qs some in found.2 ∙ level found.0 [] found.1
