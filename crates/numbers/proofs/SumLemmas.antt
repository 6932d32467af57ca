-- Sums of a function over a list, where one value of the list changes, and sums over the numbers below one.
use Rattle.std.proofs.Common.{◌≡◌, ◌≢◌, ℕ, zero, suc, ◌+◌, ◌*◌, ◌<◌, ◌≤◌, List, [], ◌∷◌, length, get_or, set, sym, refl, ap, ◌∙◌, arith, add-one, cond, ltb, eqb, inl, inr}
use Rattle.std.specs.Prelude.{All}
use Rattle.std.specs.List.{sum_by}
use Rattle.std.proofs.lemmas.Bool.{cases_eq, eq-eqb, ne_eqb, lt-leb}
use Rattle.std.proofs.lemmas.Bool.Decides.{nat_tests}
use Rattle.std.proofs.lemmas.List.Sums.{sum_by-cons}
use mathlib.Core.Option.{some, some-injective, some-ne-none}
use lib.ListN.{get_elem?}
use Rattle.numbers.specs.Sums.{sum_below, AreAllBelow}
use Rattle.numbers.proofs.SumsBelow.{sum_below-one, sum_below-same, sum_below-at, sum_by-one, sum_by-each_once}

module _ {A : Type 0} (f : A → ℕ) where
  -- one value changes
  pub sum_by-set_elem : (l : List A) (i : ℕ) (v w : A) → get_elem? l i ≡ some v → sum_by f (set l i w) + f v ≡ sum_by f l + f w
  sum_by-set_elem [] i v w e = absurd (some-ne-none v (sym e))
  sum_by-set_elem (x ∷ xs) zero v w e = let is : f x ≡ f v = ap f (some-injective x v e) in omega (arith, sum_by-cons f x xs, sum_by-cons f w xs)
  sum_by-set_elem (x ∷ xs) (suc i) v w e = omega (arith, sum_by-set_elem xs i v w e, sum_by-cons f x xs, sum_by-cons f x (set xs i w))

  -- one value is within the sum
  pub elem-le-sum_by : (l : List A) (i : ℕ) (v : A) → get_elem? l i ≡ some v → f v ≤ sum_by f l
  elem-le-sum_by [] i v e = absurd (some-ne-none v (sym e))
  elem-le-sum_by (x ∷ xs) zero v e = let is : f x ≡ f v = ap f (some-injective x v e) in omega (arith, sum_by-cons f x xs)
  elem-le-sum_by (x ∷ xs) (suc i) v e = omega (arith, elem-le-sum_by xs i v e, sum_by-cons f x xs)

  -- two values at different places are within the sum
  pub two-le-sum_by : (l : List A) (i j : ℕ) (v w : A) → i ≢ j → get_elem? l i ≡ some v → get_elem? l j ≡ some w → f v + f w ≤ sum_by f l
  two-le-sum_by [] i j v w n e d = absurd (some-ne-none v (sym e))
  two-le-sum_by (x ∷ xs) zero zero v w n e d = absurd (n refl)
  two-le-sum_by (x ∷ xs) zero (suc j) v w n e d = let is : f x ≡ f v = ap f (some-injective x v e) in omega (arith, sum_by-cons f x xs, elem-le-sum_by xs j w d)
  two-le-sum_by (x ∷ xs) (suc i) zero v w n e d = let is : f x ≡ f w = ap f (some-injective x w d) in omega (arith, sum_by-cons f x xs, elem-le-sum_by xs i v e)
  two-le-sum_by (x ∷ xs) (suc i) (suc j) v w n e d = omega (arith, sum_by-cons f x xs, two-le-sum_by xs i j v w (λ is. n (ap suc is)) e d)

-- where f is nothing at each value of the list at which g is, and one value has all that g counts, it has all that f counts
module _ {A : Type 0} (f g : A → ℕ) where
  pub sum_by-zero_from_at : (l : List A) → ((i : ℕ) (u : A) → get_elem? l i ≡ some u → g u ≡ 0 → f u ≡ 0) → sum_by g l ≡ 0 → sum_by f l ≡ 0
  sum_by-zero_from_at [] less e = refl
  sum_by-zero_from_at (x ∷ xs) less e =
      let a : g x ≡ 0 = omega (arith, sum_by-cons g x xs) in
      let b : sum_by g xs ≡ 0 = omega (arith, sum_by-cons g x xs) in
      omega (arith, less 0 x refl a, sum_by-zero_from_at xs (λ i u d. less (suc i) u d) b, sum_by-cons f x xs)

  pub sum_by-alone_at : (l : List A) → ((i : ℕ) (u : A) → get_elem? l i ≡ some u → g u ≡ 0 → f u ≡ 0) → (i : ℕ) (v : A) → get_elem? l i ≡ some v → sum_by g l ≡ g v → sum_by f l ≡ f v
  sum_by-alone_at [] less i v e h = absurd (some-ne-none v (sym e))
  sum_by-alone_at (x ∷ xs) less zero v e h =
      let is : g x ≡ g v = ap g (some-injective x v e) in
      let is' : f x ≡ f v = ap f (some-injective x v e) in
      let b : sum_by g xs ≡ 0 = omega (arith, sum_by-cons g x xs) in
      omega (arith, sum_by-zero_from_at xs (λ i u d. less (suc i) u d) b, sum_by-cons f x xs)
  sum_by-alone_at (x ∷ xs) less (suc i) v e h =
      let within = elem-le-sum_by g xs i v e in
      let a : g x ≡ 0 = omega (arith, sum_by-cons g x xs) in
      let b : sum_by g xs ≡ g v = omega (arith, sum_by-cons g x xs) in
      omega (arith, less 0 x refl a, sum_by-alone_at xs (λ j u d. less (suc j) u d) i v e b, sum_by-cons f x xs)

pub sum_by-alone : {A : Type 0} (f g : A → ℕ) → ((u : A) → g u ≡ 0 → f u ≡ 0) → (l : List A) (i : ℕ) (v : A) → get_elem? l i ≡ some v → sum_by g l ≡ g v → sum_by f l ≡ f v
sum_by-alone f g less l i v e h = sum_by-alone_at f g l (λ j u d. less u) i v e h

-- the sum of two functions
pub sum_by-add : {A : Type 0} (f g : A → ℕ) (l : List A) → sum_by (λ x. f x + g x) l ≡ sum_by f l + sum_by g l
sum_by-add f g [] = refl
sum_by-add f g (x ∷ xs) = omega (arith, sum_by-add f g xs, sum_by-cons f x xs, sum_by-cons g x xs, sum_by-cons (λ y. f y + g y) x xs)

-- where a sum is 0, so is each part
pub zero-from_sum_by : (h : ℕ → ℕ) (xs : List ℕ) (k d : ℕ) → sum_by h xs ≡ 0 → k < length xs → h (get_or xs k d) ≡ 0
zero-from_sum_by h [] k d e lt = absurd (omega arith)
zero-from_sum_by h (x ∷ xs) zero d e lt = omega (arith, sum_by-cons h x xs)
zero-from_sum_by h (x ∷ xs) (suc k) d e lt = zero-from_sum_by h xs k d (omega (arith, sum_by-cons h x xs)) (omega arith)

-- one number more
pub sum_below-next : (h : ℕ → ℕ) (n : ℕ) → sum_below h (n + 1) ≡ sum_below h n + h n
sum_below-next h n = ap (sum_below h) (add-one n)

-- a number at or above n weighs 1, and one below nothing
abbrev pub weight_past : ℕ → ℕ → ℕ
weight_past n t = cond (ltb t n) 0 1

pub lt-from_weight_past : (n t : ℕ) → weight_past n t ≡ 0 → t < n
lt-from_weight_past n t e = grind (arith, nat_tests)

pub sum_below-weight_past : (n m : ℕ) → m ≤ n → sum_below (weight_past n) m ≡ 0
sum_below-weight_past n zero h = refl
sum_below-weight_past n (suc m) h =
    let below : weight_past n m ≡ 0 = grind (arith, nat_tests) in
    omega (arith, sum_below-weight_past n m (omega arith), below)

-- a list that weighs nothing at or above n has its numbers below n
pub All-from_weight_past : (n : ℕ) (list : List ℕ) → sum_by (weight_past n) list ≡ 0 → All (λ t. t < n) list
All-from_weight_past n list none = λ k d lt. lt-from_weight_past n (get_or list k d) (zero-from_sum_by (weight_past n) list k d none lt)

-- the sum of a list of all numbers below n, for every weighting
pub sum_by-AreAllBelow : (list : List ℕ) (n : ℕ) → AreAllBelow list n → (h : ℕ → ℕ) → sum_by h list ≡ sum_below h n
sum_by-AreAllBelow list n all h = sum_by-each_once n list all.in_all all.each_once h

-- a list that has the sum of the numbers below n, for every weighting, is a list of all of them
pub AreAllBelow-from_sums : (list : List ℕ) (n : ℕ) → ((h : ℕ → ℕ) → sum_by h list ≡ sum_below h n) → AreAllBelow list n
AreAllBelow-from_sums list n all = record {
  in_all = sym (sum_by-one list) ∙ all (λ _. 1) ∙ sum_below-one n;
  each_once = λ i lt. all (λ k. cond (eqb k i) 1 0) ∙ once i lt;
}
  where
    once : (i : ℕ) → i < n → sum_below (λ k. cond (eqb k i) 1 0) n ≡ 1
    once i lt =
        let turned = sum_below-same n (λ k. cond (eqb k i) 1 0) (λ k. 1 * cond (eqb i k) 1 0) (λ k below. elim (cases_eq k i) [
          | inl at ↦ omega (arith, ap (λ b. cond {A = ℕ} b 1 0) (eq-eqb k i at), ap (λ b. cond {A = ℕ} b 1 0) (eq-eqb i k (sym at)))
          | inr off ↦ omega (arith, ap (λ b. cond {A = ℕ} b 1 0) (ne_eqb k i off), ap (λ b. cond {A = ℕ} b 1 0) (ne_eqb i k (λ at. off (sym at))))
        ]) in
        omega (arith, turned, sum_below-at n i (λ _. 1), ap (λ b. cond {A = ℕ} b 1 0) (lt-leb n i lt))
