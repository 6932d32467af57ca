-- Lists in which each number is its place.
use Rattle.std.proofs.Common.{◌≡◌, ℕ, zero, suc, ◌+◌, List, [], ◌∷◌, ◌++◌, Some, length, arith}
use Rattle.std.specs.Prelude.{slice_get}
use Rattle.std.proofs.lemmas.Option.{none-some, same_Some}
use Rattle.mailroom.specs.Rooms.{AreNumbered}

AreNumberedFrom : ℕ → List ℕ → Type 0
AreNumberedFrom a xs = (k n : ℕ) → slice_get xs k ≡ Some n → n ≡ a + k

push_from : (a : ℕ) (xs : List ℕ) (v : ℕ) → AreNumberedFrom a xs → v ≡ a + length xs → AreNumberedFrom a (xs ++ v ∷ [])
unfolding AreNumberedFrom
push_from a [] v each is zero n e = omega (arith, same_Some v n e, is)
push_from a [] v each is (suc k) n e = absurd (none-some n e)
push_from a (x ∷ xs) v each is zero n e = each zero n e
push_from a (x ∷ xs) v each is (suc k) n e =
    omega (arith, push_from (a + 1) xs v (λ j m h. omega (arith, each (suc j) m h)) (omega (arith, is)) k n e)

-- one number more
pub AreNumbered-push : (xs : List ℕ) (v : ℕ) → AreNumbered xs → v ≡ length xs → AreNumbered (xs ++ v ∷ [])
unfolding AreNumberedFrom
AreNumbered-push xs v each is k n e = omega (arith, push_from 0 xs v (λ j m h. omega (arith, each j m h)) (omega (arith, is)) k n e)
