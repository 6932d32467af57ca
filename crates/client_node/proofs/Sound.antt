-- a call has the lock only while the client is inside
use Rattle.std.proofs.Common.{◌≡◌, ℕ, true, List, refl, sym, ap, ◌∙◌, inl, inr, Option, Some, None}
use Rattle.std.specs.Prelude.{◌==◌, Ok}
use Rattle.std.proofs.lemmas.Bool.{false≢true}
use Rattle.message.specs.declared.message.ToClient.{ToClient}
use Rattle.requester.specs.declared.state.ClientState.{ClientState}
use Rattle.requester.specs.declared.state.Phase.{Phase}
use Rattle.requester.specs.Steps.{Outcome, ask, take}
use Rattle.requester.specs.Words.{is_idle, is_inside}
use Rattle.requester.proofs.Messages.{KeepsRequest-take}
use Rattle.requester.proofs.RangeLemmas.{is_inside-busy}
use Rattle.requester.proofs.SoundSteps.{ask-Ok}
use Rattle.working.proofs.Lists.{both}
use Rattle.vote_leases.proofs.Evidence.{and_true}
use Rattle.callers.specs.declared.calls.Holder.{Holder}
use Rattle.client_node.specs.Locks.{is_had_inside}

-- a client that is not inside has no call that has the lock
pub had_outside : (x y : ClientState) (o : Option Holder) → is_had_inside x o ≡ true → (is_inside x.phase ≡ true → ⊥) → is_had_inside y o ≡ true
had_outside x y None is outside = refl
had_outside x y (Some h) is outside = absurd (outside (both (is_inside x.phase) (x.stamp == h.request) is).0)

-- a client that stays inside by the same request keeps the call that has the lock
pub had_on : (x y : ClientState) (o : Option Holder) → is_had_inside x o ≡ true → (is_inside x.phase ≡ true → is_inside y.phase ≡ true) → y.stamp ≡ x.stamp → is_had_inside y o ≡ true
had_on x y None is stays same = refl
had_on x y (Some h) is stays same =
    let parts = both (is_inside x.phase) (x.stamp == h.request) is in
    and_true (is_inside y.phase) (y.stamp == h.request) (stays parts.0) (ap (λ (s : ℕ). s == h.request) same ∙ parts.1)

idle_outside : (p : Phase) → is_idle p ≡ true → is_inside p ≡ true → ⊥
idle_outside p idle inside = false≢true (sym (is_inside-busy p inside) ∙ idle)

pub had_asked : (x : ClientState) (quorum : List ℕ) (o : Outcome) (holder : Option Holder) → is_had_inside x holder ≡ true → ask x quorum ≡ Ok o → is_had_inside o.state holder ≡ true
had_asked x quorum o holder is asked = had_outside x o.state holder is (idle_outside x.phase (ask-Ok x quorum o asked).0)

-- a message takes no client out
pub inside_on : (x : ClientState) (m : ToClient) → is_inside x.phase ≡ true → is_inside (take x m).state.phase ≡ true
inside_on x m inside =
    elim (KeepsRequest-take x m).phase [
      | inl same ↦ ap is_inside same.0 ∙ inside
      | inr enters ↦ ap is_inside enters.after
    ]

pub had_took : (x : ClientState) (m : ToClient) (holder : Option Holder) → is_had_inside x holder ≡ true → is_had_inside (take x m).state holder ≡ true
had_took x m holder is = had_on x (take x m).state holder is (inside_on x m) (KeepsRequest-take x m).stamp
