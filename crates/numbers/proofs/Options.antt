-- Options, tests and first places: what their values show of their parts.
use Rattle.std.proofs.Common.{◌≡◌, Bool, true, false, ◌&&◌, ltb, List, length, refl, sym, ◌∙◌, inl, inr, arith, Option, None, Some}
use Rattle.std.specs.List.{All, position, position_or_len}
use Rattle.std.specs.Option.{option_and_then, option_map, option_or}
use Rattle.std.proofs.lemmas.Bool.{cases_lt, cond-true, false≢true, lt-ltb}
use Rattle.std.proofs.lemmas.List.Sums.{fails_before_first}

pub option_or-None : {A : Type 0} (o p : Option A) → option_or o p ≡ None → (o ≡ None) × (p ≡ None)
option_or-None None p e = (refl, e)
option_or-None (Some x) p e = cc

pub option_map-None : {A B : Type 0} (f : A → B) (o : Option A) → option_map f o ≡ None → o ≡ None
option_map-None f None e = refl
option_map-None f (Some x) e = cc

pub option_map-Some : {A B : Type 0} (f : A → B) (o : Option A) (y : B) → option_map f o ≡ Some y → (x : A) × (o ≡ Some x) × (f x ≡ y)
option_map-Some f None y e = cc
option_map-Some f (Some x) y e = (x, refl, cc)

-- both steps were taken
pub and_then-Some : {A B : Type 0} (f : A → Option B) (o : Option A) (y : B) → option_and_then f o ≡ Some y → (x : A) × (o ≡ Some x) × (f x ≡ Some y)
and_then-Some f None y e = cc
and_then-Some f (Some x) y e = (x, refl, e)

-- nothing passes
pub position-None : {A : Type 0} (p : A → Bool) (xs : List A) → position p xs ≡ None → All (λ x. p x ≡ false) xs
position-None p xs e k d lt =
    elim (cases_lt (position_or_len p xs) (length xs)) [
      | inl short ↦ let found : position p xs ≡ Some (position_or_len p xs) = cond-true (ltb (position_or_len p xs) (length xs)) (Some (position_or_len p xs)) None (lt-ltb _ _ short) in cc
      | inr long ↦ fails_before_first p xs k d (omega arith)
    ]

pub and-true : (a b : Bool) → (a && b) ≡ true → (a ≡ true) × (b ≡ true)
and-true true b e = (refl, e)
and-true false b e = cc

-- a false test, where another one implies it
pub false-by : (a b : Bool) → (a ≡ true → b ≡ true) → b ≡ false → a ≡ false
false-by true b goes is = absurd (false≢true (sym is ∙ goes refl))
false-by false b goes is = refl
