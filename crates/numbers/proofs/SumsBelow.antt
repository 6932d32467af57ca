-- Sums over the numbers below a bound, and over lists of numbers.
use Rattle.std.proofs.Common.{◌≡◌, ℕ, ◌+◌, ◌*◌, ◌%◌, ◌<◌, ◌≤◌, Bool, cond, eqb, leb, List, [], ◌∷◌, length, get_or, zero, suc, sum_by, sym, refl, ap, ◌∙◌, inl, inr, arith}
use Rattle.std.proofs.lemmas.Bool.{cases_eq, cases_lt, eq-eqb, ne_eqb, le-leb, lt-leb}
use Rattle.std.proofs.lemmas.List.Sums.{sum_by-cons}
use Rattle.std.proofs.lemmas.Nat.{mod-mul-add}
use Rattle.std.proofs.Math.Nat.{mul-le-mul_left}
use Rattle.numbers.specs.Counts.{times}
use Rattle.numbers.specs.Sets.{has, Ascends}
use Rattle.numbers.specs.Sums.{sum_below}
use Rattle.numbers.proofs.SetLemmas.{has-below, has-head, has-tail}

pub sum_below-same : (n : ℕ) (f g : ℕ → ℕ) → ((i : ℕ) → i < n → f i ≡ g i) → sum_below f n ≡ sum_below g n
sum_below-same zero f g same = refl
sum_below-same (suc n) f g same = omega (arith, sum_below-same n f g (λ i lt. same i (omega arith)), same n (omega arith))

pub sum_below-le : (n : ℕ) (f g : ℕ → ℕ) → ((i : ℕ) → i < n → f i ≤ g i) → sum_below f n ≤ sum_below g n
sum_below-le zero f g less = omega arith
sum_below-le (suc n) f g less = omega (arith, sum_below-le n f g (λ i lt. less i (omega arith)), less n (omega arith))

pub sum_below-zero : (n : ℕ) → sum_below (λ i. 0) n ≡ 0
sum_below-zero zero = refl
sum_below-zero (suc n) = omega (arith, sum_below-zero n)

pub sum_below-one : (n : ℕ) → sum_below (λ i. 1) n ≡ n
sum_below-one zero = refl
sum_below-one (suc n) = omega (arith, sum_below-one n)

pub sum_below-add : (n : ℕ) (f g : ℕ → ℕ) → sum_below (λ i. f i + g i) n ≡ sum_below f n + sum_below g n
sum_below-add zero f g = refl
sum_below-add (suc n) f g = omega (arith, sum_below-add n f g)

pub sum_below-times : (n k : ℕ) (f : ℕ → ℕ) → sum_below (λ i. k * f i) n ≡ k * sum_below f n
sum_below-times zero k f = omega arith
sum_below-times (suc n) k f = omega (arith, sum_below-times n k f)

-- all terms are m
pub sum_below-level : (n m : ℕ) (f : ℕ → ℕ) → ((i : ℕ) → i < n → f i ≡ m) → sum_below f n ≡ n * m
sum_below-level zero m f level = omega arith
sum_below-level (suc n) m f level = omega (arith, level n (omega arith), sum_below-level n m f (λ i lt. level i (omega arith)))

-- sums of products, term by term with factors in the ratio p / q at most
pub sum_below-cross : (n p q : ℕ) (f c d : ℕ → ℕ) → ((i : ℕ) → i < n → c i * q ≤ p * d i)
    → sum_below (λ i. f i * c i) n * q ≤ p * sum_below (λ i. f i * d i) n
sum_below-cross zero p q f c d bound = omega arith
sum_below-cross (suc n) p q f c d bound =
    let rest = sum_below-cross n p q f c d (λ i lt. bound i (omega arith)) in
    let last : f n * (c n * q) ≤ f n * (p * d n) = mul-le-mul_left (f n) (bound n (omega arith)) in
    omega (arith, rest, last)

-- the first term apart
pub sum_below-head : (n : ℕ) (f : ℕ → ℕ) → sum_below f (suc n) ≡ f 0 + sum_below (λ i. f (suc i)) n
sum_below-head zero f = omega arith
sum_below-head (suc n) f = omega (arith, sum_below-head n f)

-- a sum over a list is one over its places
pub sum_below-list : (h : ℕ → ℕ) (list : List ℕ) → sum_below (λ i. h (get_or list i 0)) (length list) ≡ sum_by h list
sum_below-list h [] = refl
sum_below-list h (x ∷ xs) =
    omega (arith, sum_below-head (length xs) (λ i. h (get_or (x ∷ xs) i 0)), sum_below-list h xs, sum_by-cons h x xs)

-- a sum over c numbers, in two parts
pub sum_below-parts : (a b c : ℕ) (f : ℕ → ℕ) → c ≡ a + b → sum_below f c ≡ sum_below f a + sum_below (λ i. f (a + i)) b
sum_below-parts a zero c f e = let same : c ≡ a = omega arith in omega (arith, ap (λ n. sum_below f n) same)
sum_below-parts a (suc b) zero f e = absurd (omega arith)
sum_below-parts a (suc b) (suc c) f e =
    let same : c ≡ a + b = omega arith in
    omega (arith, sum_below-parts a b c f same, ap f same)

-- a sum over whole periods
pub sum_below-periods : (k d n : ℕ) (f : ℕ → ℕ) → n ≡ k * d → sum_below (λ i. f (i % d)) n ≡ k * sum_below f d
sum_below-periods zero d n f e =
    let none : n ≡ 0 = omega arith in
    omega (arith, ap (λ m. sum_below (λ i. f (i % d)) m) none)
sum_below-periods (suc k) d n f e =
    let parts = sum_below-parts (k * d) d n (λ i. f (i % d)) (omega arith) in
    let last = sum_below-same d (λ i. f ((k * d + i) % d)) f (λ i lt. ap f (mod-mul-add k d i lt)) in
    omega (arith, parts, last, sum_below-periods k d (k * d) f refl)

-- f at x alone, summed over the numbers below n
pub sum_below-at : (n x : ℕ) (f : ℕ → ℕ) → sum_below (λ y. f y * cond (eqb x y) 1 0) n + cond (leb n x) (f x) 0 ≡ f x
sum_below-at zero x f = omega (arith, ap (λ b. cond b (f x) 0) (le-leb 0 x (omega arith)))
sum_below-at (suc n) x f =
    elim (cases_eq x n) as (λ _. sum_below (λ y. f y * cond (eqb x y) 1 0) (suc n) + cond (leb (suc n) x) (f x) 0 ≡ f x) [
      | inl at ↦
          let before = ap (λ b. cond b (f x) 0) (le-leb n x (omega arith)) in
          let after = ap (λ b. cond b (f x) 0) (lt-leb (suc n) x (omega arith)) in
          let here = ap (λ b. f n * cond b 1 0) (eq-eqb x n at) in
          omega (arith, sum_below-at n x f, before, after, here, ap f at)
      | inr off ↦
          let here = ap (λ b. f n * cond b 1 0) (ne_eqb x n off) in
          elim (cases_lt x n) as (λ _. sum_below (λ y. f y * cond (eqb x y) 1 0) (suc n) + cond (leb (suc n) x) (f x) 0 ≡ f x) [
            | inl below ↦
                let before = ap (λ b. cond b (f x) 0) (lt-leb n x below) in
                let after = ap (λ b. cond b (f x) 0) (lt-leb (suc n) x (omega arith)) in
                omega (arith, sum_below-at n x f, before, after, here)
            | inr above ↦
                let before = ap (λ b. cond b (f x) 0) (le-leb n x above) in
                let after = ap (λ b. cond b (f x) 0) (le-leb (suc n) x (omega arith)) in
                omega (arith, sum_below-at n x f, before, after, here)
          ]
    ]

-- f at the members of a set, summed over all numbers below n
pub sum_below-members : (low n : ℕ) (f : ℕ → ℕ) (q : List ℕ) → Ascends low n q → sum_below (λ i. cond (has q i) (f i) 0) n ≡ sum_by f q
sum_below-members low n f [] h = sum_below-zero n
sum_below-members low n f (x ∷ xs) h =
    let split = sum_below-same n (λ i. cond (has (x ∷ xs) i) (f i) 0) (λ i. f i * cond (eqb x i) 1 0 + cond (has xs i) (f i) 0)
    (λ i lt. elim (cases_eq x i) [
      | inl at ↦
          let here = ap (λ (b : Bool). cond b (f i) 0) (ap (has (x ∷ xs)) (sym at) ∙ has-head x xs) in
          let later = ap (λ b. cond b (f i) 0) (has-below (x + 1) n xs i h.2 (omega arith)) in
          omega (arith, here, later, ap (λ b. f i * cond b 1 0) (eq-eqb x i at))
      | inr off ↦ omega (arith, ap (λ b. cond b (f i) 0) (has-tail x xs i off), ap (λ b. f i * cond b 1 0) (ne_eqb x i off))
    ]) in
    let added = sum_below-add n (λ i. f i * cond (eqb x i) 1 0) (λ i. cond (has xs i) (f i) 0) in
    let inside = ap (λ b. cond b (f x) 0) (lt-leb n x h.1) in
    omega (arith, split, added, sum_below-at n x f, inside, sum_below-members (x + 1) n f xs h.2, sum_by-cons f x xs)

-- a sum over a list, number by number: those below n as often as they stand there, and the rest
pub sum_by-sum_below : (n : ℕ) (f : ℕ → ℕ) (list : List ℕ) → sum_by f list ≡ sum_below (λ y. f y * times y list) n + sum_by (λ x. cond (leb n x) (f x) 0) list
sum_by-sum_below n f [] = omega (arith, sum_below-same n (λ y. f y * 0) (λ y. 0) (λ y lt. omega arith), sum_below-zero n)
sum_by-sum_below n f (x ∷ xs) =
    let split = sum_below-same n (λ y. f y * times y (x ∷ xs)) (λ y. f y * cond (eqb x y) 1 0 + f y * times y xs)
    (λ y lt. times_step (f y) (cond (eqb x y) 1 0) (times y xs) (times y (x ∷ xs)) (sum_by-cons (λ k. cond (eqb k y) 1 0) x xs)) in
    let added = sum_below-add n (λ y. f y * cond (eqb x y) 1 0) (λ y. f y * times y xs) in
    omega (
      arith,
      split,
      added,
      sum_below-at n x f,
      sum_by-sum_below n f xs,
      sum_by-cons f x xs,
      sum_by-cons (λ z. cond (leb n z) (f z) 0) x xs,
    )
  where
    times_step : (a e t more : ℕ) → more ≡ e + t → a * more ≡ a * e + a * t
    times_step a e t more same = rw same (omega arith)

pub sum_by-one : {A : Type 0} (list : List A) → sum_by (λ _. 1) list ≡ length list
sum_by-one [] = refl
sum_by-one {A} (x ∷ xs) = omega (arith, sum_by-cons (λ (_ : A). 1) x xs, sum_by-one xs)

-- if no number from n on is in a list, the sum over those is 0
pub sum_by-zero_above : (n : ℕ) (f : ℕ → ℕ) (list : List ℕ) → sum_by (λ x. cond (leb n x) 1 0) list ≡ 0 → sum_by (λ x. cond (leb n x) (f x) 0) list ≡ 0
sum_by-zero_above n f [] none = refl
sum_by-zero_above n f (x ∷ xs) none =
    let count = sum_by-cons (λ z. cond (leb n z) 1 0) x xs in
    let added = sum_by-cons (λ z. cond (leb n z) (f z) 0) x xs in
    elim (cases_lt x n) as (λ _. sum_by (λ z. cond (leb n z) (f z) 0) (x ∷ xs) ≡ 0) [
      | inl below ↦
          let here = ap (λ b. cond b (f x) 0) (lt-leb n x below) in
          omega (arith, added, here, sum_by-zero_above n f xs (omega (arith, count)))
      | inr above ↦
          let here = ap (λ b. cond {A = ℕ} b 1 0) (le-leb n x above) in
          absurd (omega (arith, count, here))
    ]

-- the length of a list, number by number
pub length-sum_below : (n : ℕ) (list : List ℕ) → length list ≡ sum_below (λ y. times y list) n + sum_by (λ x. cond (leb n x) 1 0) list
length-sum_below n list =
    omega (
      arith,
      sum_by-one list,
      sum_by-sum_below n (λ x. 1) list,
      sum_below-same n (λ y. 1 * times y list) (λ y. times y list) (λ y lt. omega arith),
    )

-- a sum over a list in which the numbers below its length stand once each
pub sum_by-each_once : (n : ℕ) (list : List ℕ) → length list ≡ n → ((y : ℕ) → y < n → times y list ≡ 1) → (f : ℕ → ℕ) → sum_by f list ≡ sum_below f n
sum_by-each_once n list long once f =
    let none : sum_by (λ x. cond (leb n x) 1 0) list ≡ 0 =
    omega (arith, length-sum_below n list, sum_below-same n (λ y. times y list) (λ y. 1) once, sum_below-one n) in
    let each = sum_below-same n (λ y. f y * times y list) f (λ y lt. times_one (f y) (times y list) (once y lt)) in
    omega (arith, sum_by-sum_below n f list, sum_by-zero_above n f list none, each)
  where
    times_one : (a t : ℕ) → t ≡ 1 → a * t ≡ a
    times_one a t e = rw e (omega arith)
