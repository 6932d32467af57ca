-- No step that helps lets a client leave.
use Rattle.std.proofs.Common.{ℕ, ◌≡◌, ◌<◌, Bool, true, false, List, [], ◌∷◌, ◌++◌, length, Option, Some, None, Ok, refl, ap, ◌∙◌, arith, length-append}
use Rattle.std.specs.Prelude.{slice_get}
use Rattle.message.specs.declared.message.Message.{Message}
use Rattle.message.specs.declared.message.Message.TheVariants as kinds
use Rattle.message.specs.declared.message.ToClient.{ToClient}
use Rattle.message.specs.declared.message.ClientBody.{ClientBody}
use Rattle.message.specs.declared.message.ClientBody.TheVariants as to_client
use Rattle.voter.specs.Steps as voter
use Rattle.requester.specs.declared.state.ClientState.{ClientState}
use Rattle.requester.specs.declared.state.Seen.TheVariants.{Nothing, Entered, Left}
use Rattle.requester.specs.Steps as client
use Rattle.requester.specs.Steps.{enter_if, relinquish, relinquish_each, relinquish_if, take, take_body, take_fail, take_fail_by, take_inquire, take_inquire_by, take_locked, take_locked_by}
use Rattle.world.specs.WayIn.{Helps}
use Rattle.world_state.specs.declared.step.Event.{Event}
use Rattle.world_state.specs.declared.step.Step.{Step}
use Rattle.world_state.specs.declared.step.Step.TheVariants.{Ask, Deliver, Leave, GiveUp, RemindClient, RemindVoter, Exchange}
use Rattle.world_state.specs.Steps.{Dealing, Outcome, WorldState, act, after_voter, client_at, come, events, if_client, if_voter, step}
use Rattle.world.proofs.Added.{Adds-step}

relinquish-stays : (b : Bool) (x : ClientState) (v : ℕ) → (relinquish_if b x v).seen ≡ Left → ⊥
relinquish-stays true x v e = cc
relinquish-stays false x v e = cc

relinquish_each-stays : (x : ClientState) (vs : List ℕ) → (relinquish_each x vs).seen ≡ Left → ⊥
relinquish_each-stays x [] e = cc
relinquish_each-stays x (v ∷ vs) e = cc

enter-stays : (covered : Bool) (x : ClientState) → (enter_if covered x).seen ≡ Left → ⊥
enter-stays true x e = cc
enter-stays false x e = cc

locked-stays : (current fresh : Bool) (x : ClientState) (v stamp grant : ℕ) → (take_locked_by current fresh x v stamp grant).seen ≡ Left → ⊥
locked-stays false fresh x v stamp grant e = cc
locked-stays true false x v stamp grant e = cc
locked-stays true true x v stamp grant e = enter-stays _ _ e

fail-stays : (counts : Bool) (x : ClientState) (v : ℕ) → (take_fail_by counts x v).seen ≡ Left → ⊥
fail-stays false x v e = cc
fail-stays true x v e = relinquish_each-stays _ _ e

inquire-stays : (counts hindered : Bool) (x : ClientState) (v : ℕ) → (take_inquire_by counts hindered x v).seen ≡ Left → ⊥
unfolding relinquish
inquire-stays false hindered x v e = cc
inquire-stays true false x v e = cc
inquire-stays true true x v e = relinquish-stays _ x v e

body-stays : (x : ClientState) (v : ℕ) (body : ClientBody) → (take_body x v body).seen ≡ Left → ⊥
unfolding take_locked take_fail take_inquire
body-stays x v (to_client.Locked stamp grant) e = locked-stays _ _ x v stamp grant e
body-stays x v (to_client.Fail stamp) e = fail-stays _ x v e
body-stays x v (to_client.Inquire grant) e = inquire-stays _ _ x v e

-- no client leaves by a message that it takes
take-stays : (x : ClientState) (m : ToClient) → (take x m).seen ≡ Left → ⊥
unfolding take
take-stays x m e = body-stays _ m.voter m.body e

took-stays : (w : WorldState) (m : ToClient) (o : Outcome) → act w m.client (client.Takes m) ≡ Ok o → o.seen ≡ Left → ⊥
unfolding client.step
took-stays w m o did e = take-stays (client_at w.clients m.client) m (let same = did in cc)

voted-stays : (w : WorldState) (v : ℕ) (found : Option voter.Outcome) (o : Outcome) → after_voter w v found ≡ Ok o → o.seen ≡ Left → ⊥
voted-stays w v None o did e = cc
voted-stays w v (Some found) o did e = let same = did in cc

come-stays : (w : WorldState) (k : ℕ) (found : Option Message) (o : Outcome) → come w k found ≡ Ok o → o.seen ≡ Left → ⊥
come-stays w k None o did e = cc
come-stays w k (Some (kinds.ToVoter m)) o did e = voted-stays w m.voter (voter.step _ m) o did e
come-stays w k (Some (kinds.ToClient m)) o did e = took-stays w m o did e

reminded-stays : (there : Bool) (c : ℕ) (said o : Outcome) → said.seen ≡ Nothing → if_client there c (Ok said) ≡ Ok o → o.seen ≡ Left → ⊥
reminded-stays true c said o nothing did e = let same = did in cc
reminded-stays false c said o nothing did e = let same = did in cc

voter_reminded-stays : (there : Bool) (v : ℕ) (said o : Outcome) → said.seen ≡ Nothing → if_voter there v (Ok said) ≡ Ok o → o.seen ≡ Left → ⊥
voter_reminded-stays true v said o nothing did e = let same = did in cc
voter_reminded-stays false v said o nothing did e = let same = did in cc

-- nobody leaves in a step that helps
pub helps_stays : (deal : Dealing) (n : ℕ) (w : WorldState) (s : Step) (o : Outcome) → Helps n s → step deal w s ≡ Ok o → o.seen ≡ Left → ⊥
unfolding step
helps_stays deal n w (Ask c) o help did e = absurd help
helps_stays deal n w (Deliver k) o help did e = come-stays w k (slice_get w.sent k) o did e
helps_stays deal n w (Leave c) o help did e = absurd help
helps_stays deal n w (GiveUp c) o help did e = absurd help
helps_stays deal n w (RemindClient c) o help did e = reminded-stays _ c _ o refl did e
helps_stays deal n w (RemindVoter v) o help did e = voter_reminded-stays _ v _ o refl did e
helps_stays deal n w Exchange o help did e = absurd help

-- after a step in which somebody entered there is an event
pub entered_event : (deal : Dealing) (w : WorldState) (s : Step) (o : Outcome) → step deal w s ≡ Ok o → o.seen ≡ Entered → 0 < length o.state.visible
entered_event deal w s o did e =
    let adds = Adds-step deal w s o did in
    let seen = adds.visible ∙ ap (λ seen. w.visible ++ events adds.client seen) e in
    let more = ap length seen in
    omega (arith, more, length-append {A = Event})
