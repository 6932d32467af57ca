-- Which votes a step takes and gives back.
use Rattle.std.proofs.Common.{◌≡◌, ℕ, Bool, true, false, ◌&&◌, List, set, refl, subst, ◌∙◌, inl, inr, arith, Ok}
use Rattle.std.proofs.lemmas.Bool.Decides.{nat_tests}
use Rattle.numbers.proofs.Lists.{slice_index-replicate_zero}
use Rattle.message.specs.declared.message.ToClient.{ToClient}
use Rattle.message.specs.declared.message.ClientBody.{ClientBody}
use Rattle.message.specs.declared.message.ClientBody.TheVariants as to_client
use Rattle.requester.specs.declared.state.ClientState.{ClientState}
use Rattle.requester.specs.Words.{is_idle, is_inside, is_member, members, held_of, holds}
use Rattle.requester.specs.Soundness.{IsSound}
use Rattle.requester.specs.Held.{HoldsBesides, HoldsNothing, IsKeptOrGiven}
use Rattle.requester.specs.Steps.{Outcome, ask, hold, enter_if, take_locked, take_locked_by, see, take, take_body, would_hold, would_hold_body, leave, give_up}
use Rattle.requester.proofs.Members.{absurd-true_false, list_all-member}
use Rattle.requester.proofs.Messages.{VoteFate-take}
use Rattle.requester.proofs.SoundSteps.{ask-Ok, leave-Ok, give_up-Ok}

-- A LOCKED that counts

held-enter_if : (b : Bool) (x : ClientState) → (enter_if b x).state.held ≡ x.held
held-enter_if false x = refl
held-enter_if true x = refl

held-take_locked_by : (current fresh : Bool) (x : ClientState) (v t g : ℕ) → (current && fresh) ≡ true → (take_locked_by current fresh x v t g).state.held ≡ set x.held v g
held-take_locked_by true true x v t g e = held-enter_if _ (hold x v g)
held-take_locked_by current fresh x v t g e = absurd-true_false false e refl

HoldsBesides-take_body : (x : ClientState) (n v : ℕ) (b : ClientBody) → would_hold_body x v b ≡ true → HoldsBesides x v b (take_body (see x n) v b).state
unfolding take_locked
HoldsBesides-take_body x n v (to_client.Locked t g) e = held-take_locked_by _ _ (see x n) v t g e
HoldsBesides-take_body x n v b e = absurd-true_false false e refl

pub HoldsBesides-take : (x : ClientState) (m : ToClient) → would_hold x m ≡ true → HoldsBesides x m.voter m.body (take x m).state
unfolding would_hold take
HoldsBesides-take x m e = HoldsBesides-take_body x m.seen m.voter m.body e

-- Any other message

pub IsKeptOrGiven-take : (x : ClientState) (m : ToClient) → IsSound x → would_hold x m ≡ false → (v : ℕ) → IsKeptOrGiven x (take x m) v
IsKeptOrGiven-take x m s e v = elim (VoteFate-take x m v s) [
  | inl kept ↦ inl kept.held
  | inr (inl brought) ↦ absurd-true_false (would_hold x m) brought.counts e
  | inr (inr back) ↦ inr (back.had, back.gone, back.sent)
]

-- Phases

pub held_of-not_held : (b : Bool) (x : ClientState) (v : ℕ) → holds x v ≡ b → b ≡ false → held_of x v ≡ 0
held_of-not_held b x v e f = let none : holds x v ≡ false = e ∙ f in grind (arith, nat_tests)

holds-idle : (b : Bool) (x : ClientState) (v : ℕ) → IsSound x → is_idle x.phase ≡ true → holds x v ≡ b → b ≡ false
holds-idle false x v s idle e = refl
holds-idle true x v s idle e = absurd-true_false (is_idle x.phase) idle (s.held v e).busy

pub HoldsNothing-idle : (x : ClientState) → IsSound x → is_idle x.phase ≡ true → HoldsNothing x
HoldsNothing-idle x s idle v = held_of-not_held (holds x v) x v refl (holds-idle (holds x v) x v s idle refl)

pub holds-inside : (x : ClientState) (v : ℕ) → IsSound x → is_inside x.phase ≡ true → is_member x v ≡ true → holds x v ≡ true
holds-inside x v s inside member = list_all-member (holds x) v (members x) (s.inside inside) member

pub HoldsNothing-ask : (x : ClientState) (q : List ℕ) (o : Outcome) → ask x q ≡ Ok o → HoldsNothing o.state
HoldsNothing-ask x q o e = subst (λ (p : Outcome). HoldsNothing p.state) (ask-Ok x q o e).2 (λ v. slice_index-replicate_zero 64 v)

pub HoldsNothing-leave : (x : ClientState) (o : Outcome) → leave x ≡ Ok o → HoldsNothing o.state
HoldsNothing-leave x o e = subst (λ (p : Outcome). HoldsNothing p.state) (leave-Ok x o e).1 (λ v. slice_index-replicate_zero 64 v)

pub HoldsNothing-give_up : (x : ClientState) (o : Outcome) → give_up x ≡ Ok o → HoldsNothing o.state
HoldsNothing-give_up x o e = subst (λ (p : Outcome). HoldsNothing p.state) (give_up-Ok x o e).1 (λ v. slice_index-replicate_zero 64 v)
