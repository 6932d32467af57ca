-- what reminders and deliveries make of a world
use Rattle.std.proofs.Common.{false, Option, ◌≤◌, ◌+◌, ◌≡◌, ℕ, ◌<◌, true, List, [], ◌∷◌, ◌++◌, map, length, set, Some, Ok, refl, sym, ap, subst, ◌∙◌, inl, inr, arith, length-append}
use Rattle.std.specs.Prelude.{zero, suc, slice_get, slice_index_or}
use Rattle.std.specs.List.{Contains}
use Rattle.std.proofs.lemmas.Bool.Decides.{nat_tests}
use Rattle.std.proofs.lemmas.Option.{same_Some}
use Rattle.std.proofs.lemmas.Bool.{false_from_ne_true, lt-ltb}
use Rattle.message.specs.declared.message.Message.{Message}
use Rattle.message.specs.declared.message.Message.TheVariants as kinds
use Rattle.message.specs.declared.message.ToClient.{ToClient}
use Rattle.message.specs.declared.message.ToVoter.{ToVoter}
use Rattle.message.specs.declared.message.ClientBody.TheVariants as to_client
use Rattle.message.specs.declared.message.VoterBody.TheVariants as asks
use Rattle.voter.specs.declared.state.Grant.{Grant}
use Rattle.voter.specs.declared.state.VoterState.{VoterState}
use Rattle.voter.specs.Steps as voter
use Rattle.voter.specs.VoteMoves.{GrantIsNew}
use Rattle.voter.specs.VoterContract.{IsEntry}
use Rattle.requester.specs.declared.state.Seen.TheVariants.{Nothing}
use Rattle.requester.specs.declared.state.ClientState.{ClientState}
use Rattle.requester.specs.Soundness.{IsSound}
use Rattle.requester.specs.Steps as requester
use Rattle.requester.specs.Words.{held_of, holds, holds_under, last_of}
use Rattle.world_state.specs.declared.step.Step.TheVariants.{Deliver, RemindClient, RemindVoter}
use Rattle.world.specs.Runs.{after, run_of}
use Rattle.world_state.specs.Steps.{Dealing, WorldState, after_voter, client_at, client_did, come, if_client, if_voter, say, step, voter_at, voter_did}
use Rattle.progress.specs.LostVotes.{ComesBack, GoesOn, HasLostVote, HasReturnedVote, reminder_and_one, reminder_and_two}
use Rattle.world.specs.Coherence.{Names}
use Rattle.progress.proofs.invariants.Kept.{WorldIsKept}
use Rattle.progress.specs.Rules.{Laws}
use Rattle.progress.proofs.run.Moves.{voter_here}

-- ---- one step

-- a voter's reminder
unfoldable pub reminded : WorldState → ℕ → WorldState
reminded w v = record w { sent = w.sent ++ map kinds.ToClient (voter.remind (voter_at w.voters v)) }

pub after-remind_voter : (deal : Dealing) (w : WorldState) (v : ℕ) → v < length w.voters → after w (step deal w (RemindVoter v)) ≡ reminded w v
unfolding step reminded
after-remind_voter deal w v within = ap (λ b. after w (if_voter b v (Ok (say w (map kinds.ToClient (voter.remind (voter_at w.voters v))))))) (lt-ltb v (length w.voters) within)

-- a client takes a message
pub after-deliver_client : (deal : Dealing) (w : WorldState) (k : ℕ) (m : ToClient) → slice_get w.sent k ≡ Some (kinds.ToClient m)
    → after w (step deal w (Deliver k)) ≡ (client_did w m.client (requester.take (client_at w.clients m.client) m)).state
unfolding step requester.step
after-deliver_client deal w k m is = ap (λ o. after w (come w k o)) is

-- a voter takes a message
pub after-deliver_voter : (deal : Dealing) (w : WorldState) (k : ℕ) (m : ToVoter) (o : voter.Outcome) → slice_get w.sent k ≡ Some (kinds.ToVoter m) → voter.step (voter_at w.voters m.voter) m ≡ Some o
    → after w (step deal w (Deliver k)) ≡ (voter_did w m.voter o).state
unfolding step
after-deliver_voter deal w k m o is takes = ap (λ p. after w (come w k p)) is ∙ ap (λ p. after w (after_voter w m.voter p)) takes

-- ---- the next message

pub get_next : {A : Type 0} (xs : List A) (y : A) (ys : List A) → slice_get (xs ++ y ∷ ys) (length xs) ≡ Some y
get_next [] y ys = refl
get_next (x ∷ xs) y ys = get_next xs y ys

-- ---- a vote whose request is over

-- the LOCKED that the voter sends again, and the RELEASE that answers it
abbrev again : WorldState → ℕ → Grant → ToClient
again w v g = voter.reply (voter_at w.voters v) g.client (to_client.Locked g.stamp g.grant)

abbrev answer : WorldState → ℕ → Grant → ToVoter
answer w v g = requester.tell (client_at w.clients g.client) (voter_at w.voters v).id (asks.Release g.stamp)

abbrev answered : WorldState → ℕ → Grant → WorldState
answered w v g = (client_did (reminded w v) g.client (record { out = answer w v g ∷ []; seen = Nothing; state = requester.see (client_at w.clients g.client) (voter_at w.voters v).seen })).state

after-answer : (laws : Laws) (deal : Dealing) (w : WorldState) (v : ℕ) (g : Grant) → HasLostVote w v g
    → after (reminded w v) (step deal (reminded w v) (Deliver (length w.sent))) ≡ answered w v g
unfolding reminded
after-answer laws deal w v g lost =
    let more = laws.voter.reminds (voter_at w.voters v) g lost.held in
    let next : slice_get (w.sent ++ map kinds.ToClient (voter.remind (voter_at w.voters v))) (length w.sent) ≡ Some (kinds.ToClient (again w v g)) =
    ap (λ rs. slice_get (w.sent ++ map kinds.ToClient rs) (length w.sent)) more ∙ get_next w.sent (kinds.ToClient (again w v g)) _ in
    after-deliver_client deal (reminded w v) (length w.sent) (again w v g) next
    ∙ ap (λ o. (client_did (reminded w v) g.client o).state) (laws.client.released (client_at w.clients g.client) (again w v g) g.stamp g.grant refl lost.over)

after-release : (laws : Laws) (deal : Dealing) (w : WorldState) (v : ℕ) (g : Grant) (o : voter.Outcome) → voter.step (voter_at w.voters (voter_at w.voters v).id) (answer w v g) ≡ Some o
    → after (answered w v g) (step deal (answered w v g) (Deliver (length (reminded w v).sent))) ≡ (voter_did (answered w v g) (voter_at w.voters v).id o).state
unfolding reminded
after-release laws deal w v g o takes = after-deliver_voter deal (answered w v g) (length (reminded w v).sent) (answer w v g) o (get_next (reminded w v).sent (kinds.ToVoter (answer w v g)) []) takes

pub comes_back : Laws → (deal : Dealing) (w : WorldState) (v : ℕ) (g : Grant) → WorldIsKept deal w → HasLostVote w v g → ComesBack deal w v g
unfolding reminded
comes_back laws deal w v g r lost =
    let ok = (r []).coherent in
    let y = voter_at w.voters v in
    let id : y.id ≡ v = ok.numbered.voters v lost.voter in
    let m = answer w v g in
    let taken = laws.voter.takes y m (ok.voters v) lost.left in
    let o = taken.0 in
    let takes : voter.step (voter_at w.voters y.id) m ≡ Some o = subst (λ n. voter.step (voter_at w.voters n) m ≡ Some o) (sym id) taken.1 in
    let second = length (reminded w v).sent in
    let steps = reminder_and_two v (length w.sent) second in
    let own : m.client ≡ g.client = ok.numbered.clients g.client (ok.made v g.client g.stamp (inl (g, lost.held, refl, refl))).client in
    let run : run_of deal steps w ≡ (voter_did (answered w v g) y.id o).state =
    ap (λ (u : WorldState). after (after u (step deal u (Deliver (length w.sent)))) (step deal (after u (step deal u (Deliver (length w.sent)))) (Deliver second))) (after-remind_voter deal w v lost.voter)
    ∙ ap (λ (u : WorldState). after u (step deal u (Deliver second))) (after-answer laws deal w v g lost) ∙ after-release laws deal w v g o takes in
    let here : voter_at (run_of deal steps w).voters v ≡ o.state =
    ap (λ (u : WorldState). voter_at u.voters v) run ∙ ap (λ n. voter_at (set w.voters n o.state) v) id ∙ voter_here w.voters v o.state lost.voter in
    record {
      first = length w.sent;
      second = second;
      first_is_new = omega arith;
      second_is_new = omega (arith, length-append w.sent (map kinds.ToClient (voter.remind y)));
      gone = subst (λ (z : VoterState). (s : ℕ) → IsEntry z g.client s → ⊥) (sym here) (laws.voter.ends y m o g g.stamp (ok.voters v) lost.held own refl (omega arith) taken.1);
      others = λ d s other entry. subst (λ (z : VoterState). IsEntry z d s) (sym here) (elim (laws.voter.stays y m o d s (ok.voters v) taken.1 entry) [
        | inl stays ↦ stays
        | inr finishes ↦ absurd (other (finishes.0 ∙ own))
      ]);
    }

-- ---- a client's reminder

unfoldable pub spoken : WorldState → ℕ → WorldState
spoken w c = record w { sent = w.sent ++ map kinds.ToVoter (requester.remind (client_at w.clients c)) }

pub after-remind_client : (deal : Dealing) (w : WorldState) (c : ℕ) → c < length w.clients → after w (step deal w (RemindClient c)) ≡ spoken w c
unfolding step spoken
after-remind_client deal w c within = ap (λ b. after w (if_client b c (Ok (say w (map kinds.ToVoter (requester.remind (client_at w.clients c))))))) (lt-ltb c (length w.clients) within)

place_of : (out : List ToVoter) (k : ℕ) (m : ToVoter) → k < length out → slice_index_or out k m ≡ m → slice_get (map kinds.ToVoter out) k ≡ Some (kinds.ToVoter m)
place_of [] k m within is = absurd (omega arith)
place_of (x ∷ xs) zero m within is = ap (λ (n : ToVoter). Some (kinds.ToVoter n)) is
place_of (x ∷ xs) (suc k) m within is = place_of xs k m (omega arith) is

pub get_sent : (sent : List Message) (out : List ToVoter) (k : ℕ) (m : ToVoter) → k < length out → slice_index_or out k m ≡ m
    → slice_get (sent ++ map kinds.ToVoter out) (length sent + k) ≡ Some (kinds.ToVoter m)
get_sent [] out k m within is = subst (λ n. slice_get (map kinds.ToVoter out) n ≡ Some (kinds.ToVoter m)) (let same : k ≡ 0 + k = omega arith in same) (place_of out k m within is)
get_sent (x ∷ sent) out k m within is =
    subst (λ n. slice_get (x ∷ (sent ++ map kinds.ToVoter out)) n ≡ Some (kinds.ToVoter m)) (let same : suc (length sent + k) ≡ suc (length sent) + k = omega arith in same)
    (get_sent sent out k m within is)

-- a message of the reminder arrives
after-said : (deal : Dealing) (w : WorldState) (c : ℕ) (m : ToVoter) (o : voter.Outcome) → c < length w.clients → (there : Contains (requester.remind (client_at w.clients c)) m)
    → voter.step (voter_at w.voters m.voter) m ≡ Some o
    → run_of deal (RemindClient c ∷ Deliver (length w.sent + there.0) ∷ []) w ≡ (voter_did (spoken w c) m.voter o).state
unfolding spoken
after-said deal w c m o within there takes =
    ap (λ (u : WorldState). after u (step deal u (Deliver (length w.sent + there.0)))) (after-remind_client deal w c within)
    ∙ after-deliver_voter deal (spoken w c) (length w.sent + there.0) m o (get_sent w.sent (requester.remind (client_at w.clients c)) there.0 m there.1 there.2) takes

-- ---- a vote that was given back

pub not_held : (x : ClientState) (v n : ℕ) (held : Option Grant) (g : Grant) (c : ℕ) → IsSound x → held ≡ Some g → g.grant ≤ last_of x v
    → ((k : ℕ) → holds_under x v k ≡ true → Names held c x.stamp k) → holds x v ≡ false
not_held x v n held g c sound is few names = false_from_ne_true (holds x v) (λ has.
    let number = held_of x v in
    let under : holds_under x v number ≡ true = grind (arith, nat_tests) in
    let same : g.grant ≡ number = ap (λ (h : Grant). h.grant) (same_Some g _ (sym is ∙ names number under)) in
    let fresh = (sound.held v has).fresh in
    (let x : ⊥ = omega arith in x))

pub goes_on : Laws → (deal : Dealing) (w : WorldState) (v : ℕ) (g : Grant) → WorldIsKept deal w → HasReturnedVote w v g → GoesOn deal w v g
unfolding spoken
goes_on laws deal w v g r back =
    let c = g.client in
    let x = client_at w.clients c in
    let y = voter_at w.voters v in
    let ok = (r []).coherent in
    let fits = (r []).fits in
    let within = (ok.made v c g.stamp (inl (g, back.held, refl, refl))).client in
    let v_within = ok.members c v back.asked in
    let few = ok.numbered.few_voters in
    let given = (fits.pairs c v).given (omega arith) g back.held refl back.asks back.current back.returned in
    let free = not_held x v 0 y.held g c (ok.clients c) back.held back.returned (λ k has. ok.held c v k has) in
    let m = requester.tell x v (asks.Relinquish (last_of x v)) in
    let there = laws.client.returns x v back.asks back.asked free given.1 in
    let own : m.client ≡ c = ok.numbered.clients c within in
    let body : m.body ≡ asks.Relinquish g.grant = ap (λ n. asks.Relinquish n) given.0 in
    let taken = laws.voter.takes y m (ok.voters v) back.left in
    let o = taken.0 in
    let run = after-said deal w c m o within there taken.1 in
    let here : voter_at (run_of deal (reminder_and_one c (length w.sent + there.0)) w).voters v ≡ o.state = ap (λ (u : WorldState). voter_at u.voters v) run ∙ voter_here w.voters v o.state v_within in
    record {
      message = length w.sent + there.0;
      is_new = omega arith;
      granted = subst (λ (z : VoterState). GrantIsNew y z) (sym here) (laws.voter.goes_on y m o g (ok.voters v) back.held own body taken.1);
      known = λ d s entry. subst (λ (z : VoterState). IsEntry z d s) (sym here) (elim (laws.voter.stays y m o d s (ok.voters v) taken.1 entry) [
        | inl stays ↦ stays
        | inr finishes ↦ absurd finishes
      ]);
    }
