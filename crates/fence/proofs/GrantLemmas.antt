-- What a client shows, one voter at a time.
use Rattle.std.proofs.Common.{◌≡◌, ℕ, ◌<◌, ◌≤◌, true, false, List, [], ◌∷◌, length, Option, Some, None, refl, sym, subst, ◌∙◌, arith}
use Rattle.std.specs.Prelude.{nat_lt, slice_index}
use Rattle.std.specs.List.{list_all}
use Rattle.std.specs.Option.{SomeIff}
use Rattle.std.proofs.lemmas.Bool.Decides.{nat_tests}
use Rattle.std.proofs.lemmas.Bool.{false≢true}
use Rattle.std.proofs.lemmas.List.Folds.{list_any_at}
use Rattle.std.proofs.lemmas.Option.{none-some, same_Some}
use Rattle.numbers.proofs.SetLemmas.{has-head}
use Rattle.fence.specs.Passes.{HasGrant}
use Rattle.requester.specs.declared.state.ClientState.{ClientState}
use Rattle.requester.specs.declared.state.Phase.{Phase}
use Rattle.requester.specs.declared.state.Phase.TheVariants.{Idle, Asking, Inside}
use Rattle.requester.specs.Soundness.{IsSound}
use Rattle.requester.specs.Words.{grant_if, grant_of, held_of, holds, is_idle, is_inside, members}
use Rattle.requester.proofs.Members.{get_or-some_below, list_all-member}

pub some_grant : (x : ClientState) (v g : ℕ) (o : Option ℕ) → o ≡ grant_of x v → o ≡ Some g → g ≡ held_of x v
some_grant x v g o is some = elim (holds x v) as (λ b. grant_if b (held_of x v) ≡ Some g → g ≡ held_of x v) [
  | true ↦ λ e. sym (same_Some (held_of x v) g e)
  | false ↦ λ e. absurd (none-some g e)
] (sym is ∙ some)

none_held : (x : ClientState) (v : ℕ) → holds x v ≡ false → 0 ≡ held_of x v
none_held x v h = grind (arith, nat_tests)

pub no_grant : (x : ClientState) (v : ℕ) (o : Option ℕ) → o ≡ grant_of x v → o ≡ None → 0 ≡ held_of x v
no_grant x v o is none = elim (holds x v) as (λ b. holds x v ≡ b → grant_if b (held_of x v) ≡ None → 0 ≡ held_of x v) [
  | true ↦ λ h e. absurd (none-some (held_of x v) (sym e))
  | false ↦ λ h e. none_held x v h
] refl (sym is ∙ none)

-- the grants of the voters below this one are shown
pub record Shows (x : ClientState) (n : ℕ) (grants : List ℕ) : Type 0 where
  pub places : length grants ≡ 64
  pub done : (v : ℕ) → v < n → slice_index grants v ≡ held_of x v

-- a client that is inside has a grant: the vote of the first member of its quorum
grant_of_member : (x : ClientState) (v : ℕ) → holds x v ≡ true → HasGrant x.held
grant_of_member x v h = list_any_at (nat_lt 0) x.held v 0 (get_or-some_below x.held v h) h

first_holds : (x : ClientState) (vs : List ℕ) → list_all (holds x) vs ≡ true → 1 ≤ length vs → HasGrant x.held
first_holds x [] all some = absurd (omega arith)
first_holds x (v ∷ vs) all some = grant_of_member x v (list_all-member (holds x) v (v ∷ vs) all (has-head v vs))

busy_inside : (p : Phase) → is_inside p ≡ true → is_idle p ≡ false
busy_inside Idle e = absurd (false≢true e)
busy_inside Asking e = refl
busy_inside Inside e = refl

pub has_grant_inside : (x : ClientState) → IsSound x → is_inside x.phase ≡ true → HasGrant x.held
has_grant_inside x sound inside = first_holds x (members x) (sound.inside inside) (sound.asked (busy_inside x.phase inside))

-- what is made of the grants of a client that is inside is its pass
pub shows_if_inside : (x : ClientState) (r : Option (List ℕ)) (grants : List ℕ) → IsSound x → is_inside x.phase ≡ true → grants ≡ x.held → SomeIff r (HasGrant grants) grants
    → SomeIff r (is_inside x.phase ≡ true) x.held
shows_if_inside x None grants sound inside is made = absurd (made (subst HasGrant (sym is) (has_grant_inside x sound inside)))
shows_if_inside x (Some p) grants sound inside is made = (inside, made.1 ∙ is)
