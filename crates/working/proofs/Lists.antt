-- functions with another value at one place, and lists
use Rattle.std.proofs.Common.{◌≡◌, ℕ, Bool, true, false, List, [], ◌∷◌, ◌++◌, Some, refl, sym, subst, ◌∙◌, inl, inr}
use Rattle.std.specs.Prelude.{zero, suc, ◌==◌, ◌&&◌, ◌||◌, if◌then◌else◌}
use Rattle.std.specs.List.{AllByRecursion, list_any, slice_get}
use Rattle.std.proofs.lemmas.Bool.{eq-eqb, eqb-true, false≢true}
use Rattle.std.proofs.lemmas.Option.{none-some, same_Some}
use Rattle.lease_clock.specs.Leases.{is_among}
use Rattle.working.specs.Events.{IsOneOf}
use Rattle.working.specs.Voters.{set}

by_test : {X : Type 0} (P : ℕ → X → Type 0) (f : ℕ → X) (place : ℕ) (value : X) (other : ℕ) (b : Bool) → (place == other) ≡ b
    → P place value → ((place == other) ≡ false → P other (f other)) → P other (if b then value else f other)
by_test P f place value other false e here there = there e
by_test P f place value other true e here there = subst (λ (o : ℕ). P o value) (eqb-true place other e) here

-- a property of a function with another value at one place, at that place and elsewhere
pub set_by : {X : Type 0} (P : ℕ → X → Type 0) (f : ℕ → X) (place : ℕ) (value : X) (other : ℕ) → P place value
    → ((place == other) ≡ false → P other (f other)) → P other (set f place value other)
set_by P f place value other here there = by_test P f place value other (place == other) refl here there

-- elsewhere is not here
pub not_here : (place other : ℕ) → (place == other) ≡ false → place ≡ other → ⊥
not_here place other is same = false≢true (sym is ∙ eq-eqb place other same)

-- ---- what holds of all members

pub weaker : {X : Type 0} {P Q : X → Type 0} → ((x : X) → P x → Q x) → (xs : List X) → AllByRecursion P xs → AllByRecursion Q xs
weaker more [] ps = tt
weaker more (x ∷ xs) ps = (more x ps.0, weaker more xs ps.1)

pub both_all : {X : Type 0} {P Q R : X → Type 0} → ((x : X) → P x → Q x → R x) → (xs : List X) → AllByRecursion P xs → AllByRecursion Q xs → AllByRecursion R xs
both_all f [] ps qs = tt
both_all f (x ∷ xs) ps qs = (f x ps.0 qs.0, both_all f xs ps.1 qs.1)

pub and_one : {X : Type 0} (P : X → Type 0) (xs : List X) (x : X) → AllByRecursion P xs → P x → AllByRecursion P (xs ++ x ∷ [])
and_one P [] x ps p = (p, tt)
and_one P (y ∷ ys) x ps p = (ps.0, and_one P ys x ps.1 p)

pub one_of : {X : Type 0} (P : X → Type 0) (xs : List X) (x : X) → AllByRecursion P xs → IsOneOf x xs → P x
one_of P [] x ps among = absurd among
one_of P (y ∷ ys) x ps among = elim among [
  | inl e ↦ subst P (sym e) ps.0
  | inr rest ↦ one_of P ys x ps.1 rest
]

pub of_place : {X : Type 0} (P : X → Type 0) (xs : List X) (place : ℕ) (x : X) → slice_get xs place ≡ Some x → AllByRecursion P xs → P x
of_place P [] place x is ps = absurd (none-some x is)
of_place P (y ∷ ys) zero x is ps = subst P (same_Some y x is) ps.0
of_place P (y ∷ ys) (suc place) x is ps = of_place P ys place x is ps.1

-- a member that passes a test
pub record Found {X : Type 0} (P : X → Type 0) (test : X → Bool) : Type 0 where
  pub one : X
  pub passes : test one ≡ true
  pub holds : P one

pub find_in : {X : Type 0} (P : X → Type 0) (test : X → Bool) (xs : List X) → list_any test xs ≡ true → AllByRecursion P xs → Found P test
find_in P test [] is ps = absurd (false≢true is)
find_in P test (x ∷ xs) is ps = elim (test x) as (λ b. test x ≡ b → (b || list_any test xs) ≡ true → Found P test) [
  | true ↦ λ e found. record { one = x; passes = e; holds = ps.0 }
  | false ↦ λ e found. find_in P test xs found ps.1
] refl is

-- ---- numbers in a list

pub still_among : (x y : ℕ) (ys : List ℕ) → is_among x ys ≡ true → is_among x (y ∷ ys) ≡ true
still_among x y ys is = elim (x == y) as (λ b. (b || is_among x ys) ≡ true) [
  | true ↦ refl
  | false ↦ is
]

pub first_among : (x : ℕ) (ys : List ℕ) → is_among x (x ∷ ys) ≡ true
first_among x ys = subst (λ (b : Bool). (b || is_among x ys) ≡ true) (sym (eq-eqb x x refl)) refl

-- ---- tests

pub both : (a b : Bool) → (a && b) ≡ true → (a ≡ true) × (b ≡ true)
both true b is = (refl, is)
both false b is = absurd (false≢true is)
