-- how the clock goes on, and what goes back to whom
use Rattle.std.proofs.Common.{◌≡◌, ℕ, Bool, true, false, List, [], ◌∷◌, ◌++◌, eqb, refl, sym, ap, subst, ◌∙◌, inl, inr, arith, Ok}
use Rattle.std.specs.Prelude.{◌||◌}
use Rattle.std.specs.List.{Contains, flat_map}
use Rattle.std.proofs.lemmas.Bool.{false≢true}
use Rattle.std.proofs.lemmas.Bool.Decides.{nat_tests}
use Rattle.std.proofs.lemmas.List.Elements.{Contains-append_left, Contains-append_right}
use Rattle.numbers.specs.Sets.{has}
use Rattle.message.specs.declared.message.ToClient.{ToClient}
use Rattle.message.specs.declared.message.ToVoter.{ToVoter}
use Rattle.message.specs.declared.message.ClientBody.{ClientBody}
use Rattle.message.specs.declared.message.ClientBody.TheVariants as to_client
use Rattle.message.specs.declared.message.VoterBody.TheVariants as asks
use Rattle.requester.specs.declared.state.ClientState.{ClientState}
use Rattle.requester.specs.declared.state.Phase.{Phase}
use Rattle.requester.specs.declared.state.Phase.TheVariants.{Asking}
use Rattle.requester.specs.declared.state.Seen.TheVariants.{Nothing}
use Rattle.requester.specs.Clocks.{KeepsTime}
use Rattle.requester.specs.Words.{holds, is_asking, is_current, is_member, is_relinquished, last_of, members}
use Rattle.requester.specs.Soundness.{IsSound}
use Rattle.requester.specs.Steps.{Outcome, Cause, Asks, Takes, Leaves, GivesUp, step, take, take_body, see, tell, take_locked, take_locked_by}
use Rattle.requester.specs.Steps.{remind, remind_in, remind_by, remind_member}
use Rattle.requester.proofs.Messages.{KeepsRequest-take}
use Rattle.requester.proofs.SoundSteps.{Ok-same, ask-Ok, leave-Ok, give_up-Ok}

-- ---- a message

KeepsTime-take : (x : ClientState) (m : ToClient) → KeepsTime x (Takes m) (take x m).state
KeepsTime-take x m =
    let k = KeepsRequest-take x m in
    let clock = k.clock in
    record {
      clock = omega arith;
      heard = omega arith;
      asking = λ asks. elim k.phase [ inl same ↦ inl (ap is_asking (sym same.0) ∙ asks, k.stamp) | inr enters ↦ absurd (false≢true (sym (ap is_asking enters.after) ∙ asks)) ];
    }

-- ---- a call

KeepsTime-call : (x : ClientState) (cause : Cause) (o p : Outcome) → p ≡ o → KeepsTime x cause p.state → KeepsTime x cause o.state
KeepsTime-call x cause o p same k = subst (λ (q : Outcome). KeepsTime x cause q.state) same k

pub KeepsTime-step : (x : ClientState) (cause : Cause) (o : Outcome) → IsSound x → step x cause ≡ Ok o → KeepsTime x cause o.state
unfolding step
KeepsTime-step x (Asks q) o s e = KeepsTime-call x (Asks q) o _ (ask-Ok x q o e).2 (record { clock = omega arith; heard = tt; asking = λ _. inr (omega arith) })
KeepsTime-step x (Takes m) o s e = KeepsTime-call x (Takes m) o _ (Ok-same (take x m) o e) (KeepsTime-take x m)
KeepsTime-step x Leaves o s e = KeepsTime-call x Leaves o _ (leave-Ok x o e).1 (record { clock = omega arith; heard = tt; asking = λ a. absurd (false≢true a) })
KeepsTime-step x GivesUp o s e = KeepsTime-call x GivesUp o _ (give_up-Ok x o e).1 (record { clock = omega arith; heard = tt; asking = λ a. absurd (false≢true a) })

-- ---- a vote for a request that is over

old-take_locked_by : (b fresh : Bool) (x : ClientState) (v t g : ℕ) → b ≡ false → take_locked_by b fresh x v t g ≡ record { out = tell x v (asks.Release t) ∷ []; seen = Nothing; state = x }
old-take_locked_by true fresh x v t g e = absurd (false≢true (sym e))
old-take_locked_by false fresh x v t g e = refl

old-body : (x : ClientState) (v t g : ℕ) (b : ClientBody) → b ≡ to_client.Locked t g → is_current x t ≡ false
    → take_body x v b ≡ record { out = tell x v (asks.Release t) ∷ []; seen = Nothing; state = x }
unfolding take_locked
old-body x v t g b is over = ap (take_body x v) is ∙ old-take_locked_by _ _ x v t g over

pub old-take : (x : ClientState) (m : ToClient) (stamp grant : ℕ) → m.body ≡ to_client.Locked stamp grant → is_current x stamp ≡ false
    → take x m ≡ record { out = tell x m.voter (asks.Release stamp) ∷ []; seen = Nothing; state = see x m.seen }
unfolding take
old-take x m stamp grant is over = old-body (see x m.seen) m.voter stamp grant m.body is over

-- ---- reminders

Contains-flat_map : (f : ℕ → List ToVoter) (vs : List ℕ) (v : ℕ) (m : ToVoter) → has vs v ≡ true → Contains (f v) m → Contains (flat_map f vs) m
Contains-flat_map f [] v m is there = absurd (false≢true is)
Contains-flat_map f (u ∷ us) v m is there =
    elim (eqb u v) as (λ t. eqb u v ≡ t → (t || has us v) ≡ true → Contains (f u ++ flat_map f us) m) [
      | true ↦ λ e _. let same : v ≡ u = grind (arith, nat_tests) in Contains-append_left (f u) (flat_map f us) m (subst (λ n. Contains (f n) m) same there)
      | false ↦ λ _ rest. Contains-append_right (f u) (flat_map f us) m (Contains-flat_map f us v m rest there)
    ] refl is

asks_by : (held given : Bool) (x : ClientState) (v : ℕ) → held ≡ false → Contains (remind_by held given x v) (tell x v (asks.Request x.stamp))
asks_by true given x v e = absurd (false≢true (sym e))
asks_by false false x v e = (0, omega arith, refl)
asks_by false true x v e = (1, omega arith, refl)

gives_by : (held given : Bool) (x : ClientState) (v : ℕ) → held ≡ false → given ≡ true → Contains (remind_by held given x v) (tell x v (asks.Relinquish (last_of x v)))
gives_by true given x v e f = absurd (false≢true (sym e))
gives_by false false x v e f = absurd (false≢true f)
gives_by false true x v e f = (0, omega arith, refl)

reminds_in : (p : Phase) (x : ClientState) (v : ℕ) (m : ToVoter) → is_asking p ≡ true → is_member x v ≡ true → Contains (remind_member x v) m → Contains (remind_in p x) m
reminds_in Asking x v m asking member there = Contains-flat_map (remind_member x) (members x) v m member there
reminds_in p x v m asking member there = absurd (false≢true asking)

pub reminds-request : (x : ClientState) (v : ℕ) → is_asking x.phase ≡ true → is_member x v ≡ true → holds x v ≡ false → Contains (remind x) (tell x v (asks.Request x.stamp))
unfolding remind
reminds-request x v asking member free = reminds_in x.phase x v _ asking member (asks_by (holds x v) (is_relinquished x v) x v free)

pub reminds-relinquish : (x : ClientState) (v : ℕ) → is_asking x.phase ≡ true → is_member x v ≡ true → holds x v ≡ false → is_relinquished x v ≡ true
    → Contains (remind x) (tell x v (asks.Relinquish (last_of x v)))
unfolding remind
reminds-relinquish x v asking member free marked = reminds_in x.phase x v _ asking member (gives_by (holds x v) (is_relinquished x v) x v free marked)
