-- The root's fields and its seat, as seats are given and taken back.
use Rattle.std.proofs.Common.{◌≡◌, ◌≢◌, ℕ, zero, suc, ◌+◌, ◌<◌, ◌≤◌, Bool, true, false, map, List, [], ◌∷◌, ◌++◌, length, nat_lt, set, get_or, replicate, refl, sym, ap, ◌∙◌, arith}
use Rattle.std.specs.List.{sum_by}
use Rattle.std.proofs.lemmas.List.Sums.{sum_by-cons}
use Rattle.std.proofs.lemmas.List.{length-replicate, get_or-replicate}
use mathlib.Core.List.{map-append}
use Rattle.std.proofs.lemmas.Bool.Decides.{nat_tests}
use Rattle.board.specs.declared.table.View.{View}
use Rattle.board.specs.Roots.{weight, IsRoot, passes_of}
use Rattle.board.specs.Views.{root_view, with_client}

pub IsRoot-with_client : (u : View) (count : ℕ) (fv fc : List Bool) (kept : List (ℕ × ℕ)) (w : View) (more : List (ℕ × ℕ)) → IsRoot u count fv fc kept → w.parts ≡ 1
    → w.passes ≡ map (λ p. p.1) more → IsRoot (with_client u w) (count + 1) fv fc (kept ++ more)
IsRoot-with_client u count fv fc kept w more r one passes = record {
  parts = (λ i. r.parts i + one i);
  enough = omega (arith, r.enough);
  client = r.client;
  held = r.held;
  reading = r.reading;
  passes = (λ i. r.passes i ++ passes i) ∙ sym (map-append (λ (p : ℕ × ℕ). p.1) kept more);
  wide = r.wide;
  given = r.given;
}

-- one flag more
pub sum_by-set_flag : (l : List Bool) (v : ℕ) → v < length l → get_or l v false ≡ false → sum_by weight (set l v true) ≡ sum_by weight l + 1
sum_by-set_flag [] v lt e = absurd (omega arith)
sum_by-set_flag (x ∷ xs) zero lt e = let one : weight x ≡ 0 = ap weight e in omega (arith, sum_by-cons weight x xs, sum_by-cons weight true xs)
sum_by-set_flag (x ∷ xs) (suc v) lt e = omega (arith, sum_by-set_flag xs v (omega arith) e, sum_by-cons weight x xs, sum_by-cons weight x (set xs v true))

pub flags-none : (n : ℕ) → sum_by weight (replicate n false) ≡ 0
flags-none zero = refl
flags-none (suc n) = omega (arith, flags-none n, sum_by-cons weight false (replicate n false))

pub get_or-replicate_false : (n k : ℕ) → get_or (replicate n false) k false ≡ false
get_or-replicate_false zero k = refl
get_or-replicate_false (suc n) zero = refl
get_or-replicate_false (suc n) (suc k) = get_or-replicate_false n k

pub IsRoot-fresh : (voters clients count : ℕ) (fv fc : List Bool) → count ≡ voters + clients → sum_by weight fv + sum_by weight fc ≤ count → ((v : ℕ) → get_or fv v false ≡ true → v < 64)
    → IsRoot (root_view voters clients) count fv fc []
IsRoot-fresh voters clients count fv fc all enough only = record {
  parts = ap (λ (n : ℕ). n + 1) (sym all);
  enough = enough;
  client = refl;
  held = refl;
  reading = refl;
  passes = refl;
  wide = length-replicate {A = ℕ} 64 1;
  given = λ v on. get_or-replicate 64 v 1 0 (only v on);
}

pub numbers_of : (client : ℕ) (xs : List ℕ) → map (λ (p : ℕ × ℕ). p.1) (passes_of client xs) ≡ xs
numbers_of client [] = refl
numbers_of client (x ∷ xs) = ap (λ (l : List ℕ). x ∷ l) (numbers_of client xs)

-- the test of being below, at the next number
pub nat_lt-zero : (k : ℕ) → false ≡ nat_lt k 0
nat_lt-zero k = grind (arith, nat_tests)

pub nat_lt-self : (i : ℕ) → nat_lt i i ≡ false
nat_lt-self i = grind (arith, nat_tests)

pub nat_lt-next : (i : ℕ) → true ≡ nat_lt i (i + 1)
nat_lt-next i = grind (arith, nat_tests)

pub nat_lt-other : (k i : ℕ) → k ≢ i → nat_lt k i ≡ nat_lt k (i + 1)
nat_lt-other k i far = grind (arith, nat_tests)
