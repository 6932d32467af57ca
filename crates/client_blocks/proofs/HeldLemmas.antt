-- what a step of a lock leaves, where it writes client and votes
use Rattle.std.proofs.Common.{◌≡◌, ℕ, ◌≤◌, List, Bool, true, false, Option, length, refl, ap, sym, subst, ◌∙◌, arith}
use Rattle.std.specs.Prelude.{Result, Ok, Err, if◌then◌else◌, is_none}
use Rattle.message.specs.declared.message.ToVoter.{ToVoter}
use Rattle.requester.specs.declared.fault.ClientFault.{ClientFault}
use Rattle.requester.specs.declared.state.ClientState.{ClientState}
use Rattle.requester.specs.Steps.{Outcome, ask, give_up, leave}
use Rattle.vote_leases.specs.declared.vote.Vote.{Vote}
use Rattle.callers.specs.Calls.{call_fault, may_end, one_more, wanted}
use Rattle.callers.specs.declared.calls.Calls.{Calls}
use Rattle.callers.specs.declared.calls.Holder.{Holder}
use Rattle.client_node.specs.Locks.{IsSound, Lock, LockOutcome, ask_lock, asked_with, ended_with, give_up_lock, is_had_inside, leave_lock, phase_of, with_calls}
use Rattle.client_node.specs.declared.fault.LockFault.{LockFault}
use Rattle.client_node.specs.declared.fault.LockFault.TheVariants.{HasLock}
use Rattle.blocks.specs.Numbers.{done}
use Rattle.lock_blocks.specs.Bytes.{IsClient}
use Rattle.lock_blocks.specs.Lines.{Sends, Writes, lines_to_voters}
use Rattle.session_blocks.specs.Bytes.{AreCalls}
use Rattle.session_blocks.specs.SessionSteps.{fault_number}
use Rattle.client_blocks.specs.Bytes.{AreVotes, IsLock}
use Rattle.client_blocks.specs.HeldSteps.{AsksBy, EndsBy, LockAsks, LockEnds, LockIsWanted}

-- ---- the calls stay

abbrev calls_after : {E : Type 0} → Calls → Result LockOutcome E → Calls
calls_after calls (Err fault) = calls
calls_after calls (Ok o) = o.lock.calls

ended_calls : (l : Lock) (r : Result Outcome ClientFault) → calls_after l.calls (ended_with l r) ≡ l.calls
ended_calls l (Err fault) = refl
ended_calls l (Ok o) = refl

asked_calls : (l : Lock) (r : Result Outcome ClientFault) → calls_after l.calls (asked_with l r) ≡ l.calls
asked_calls l (Err fault) = refl
asked_calls l (Ok o) = refl

if_calls : (calls : Calls) (may : Bool) (end : Result LockOutcome LockFault) → calls_after calls end ≡ calls → calls_after calls (if may then end else Err HasLock) ≡ calls
if_calls calls true end is = is
if_calls calls false end is = refl

pub left_calls : (l : Lock) (o : LockOutcome) → leave_lock l ≡ Ok o → o.lock.calls ≡ l.calls
left_calls l o is =
    sym (ap (calls_after l.calls) is)
    ∙ if_calls l.calls (may_end l.calls l.client.stamp) (ended_with l (leave l.client)) (ended_calls l (leave l.client))

pub given_up_calls : (l : Lock) (o : LockOutcome) → give_up_lock l ≡ Ok o → o.lock.calls ≡ l.calls
given_up_calls l o is =
    sym (ap (calls_after l.calls) is)
    ∙ if_calls l.calls (may_end l.calls l.client.stamp) (ended_with l (give_up l.client)) (ended_calls l (give_up l.client))

pub ask_calls : (l : Lock) (quorum : List ℕ) (o : LockOutcome) → ask_lock l quorum ≡ Ok o → o.lock.calls ≡ l.calls
ask_calls l quorum o is = sym (ap (calls_after l.calls) is) ∙ asked_calls l (ask l.client quorum)

-- ---- what is written

-- the client and the votes of this lock are written, and its calls were there
pub written_lock : (client votes calls client_after votes_after : List ℕ) (l new : Lock) (x : ClientState) (vs : List Vote) → IsLock client votes calls l
    → new.calls ≡ l.calls → IsClient client_after x → x ≡ new.client → AreVotes votes_after vs → vs ≡ new.votes → IsSound new
    → IsLock client_after votes_after calls new
written_lock client votes calls client_after votes_after l new x vs was same is_client client_is are_votes votes_are sound = record {
  is_client = subst (λ (y : ClientState). IsClient client_after y) client_is is_client;
  are_votes = subst (λ (ws : List Vote). AreVotes votes_after ws) votes_are are_votes;
  are_calls = subst (λ (c : Calls). AreCalls calls c) (sym same) was.are_calls;
  sound = sound;
}

-- so are the lines of these messages
pub sent : (messages out_is : List ToVoter) (out out_after : List ℕ) (written : ℕ) (Changes : Type 0) → messages ≡ out_is
    → Writes (lines_to_voters messages) out out_after written × (length (lines_to_voters messages) ≤ length out) → Changes
    → Sends (lines_to_voters out_is) out out_after written done Changes
sent messages out_is out out_after written Changes are wrote changes =
    subst (λ (ms : List ToVoter). Sends (lines_to_voters ms) out out_after written done Changes) are
    (record { sent = λ fits. (refl, wrote.0, changes); no_room = λ short. absurd (let fits = wrote.1 in omega (arith, fits, short)) })

pub ends_done : (step : Lock → Result LockOutcome LockFault) (calls client client_after votes votes_after out out_after : List ℕ) (written : ℕ) (l : Lock) (o : LockOutcome)
    → IsLock client votes calls l → ((m : Lock) → IsLock client votes calls m → m ≡ l) → step l ≡ Ok o
    → Sends (lines_to_voters o.out) out out_after written done (IsLock client_after votes_after calls o.lock)
    → LockEnds step calls client client_after votes votes_after out out_after written done
ends_done step calls client client_after votes votes_after out out_after written l o loaded only is sends = record {
  no_lock = λ none. absurd (none l loaded);
  ends = λ m such.
      subst (λ (r : Result LockOutcome LockFault). EndsBy r client_after votes_after calls out out_after written done) (sym (ap step (only m such) ∙ is)) sends;
}

pub asks_done : (quorum calls client client_after votes votes_after out out_after : List ℕ) (written : ℕ) (l : Lock) (o : LockOutcome)
    → IsLock client votes calls l → ((m : Lock) → IsLock client votes calls m → m ≡ l) → ask_lock l quorum ≡ Ok o
    → Sends (lines_to_voters o.out) out out_after written done (IsLock client_after votes_after calls o.lock)
    → LockAsks quorum calls client client_after votes votes_after out out_after written done
asks_done quorum calls client client_after votes votes_after out out_after written l o loaded only is sends = record {
  no_lock = λ none. absurd (none l loaded);
  asks = λ m such.
      subst (λ (r : Result LockOutcome ClientFault). AsksBy r client_after votes_after calls out out_after written done)
      (sym (ap (λ (k : Lock). ask_lock k quorum) (only m such) ∙ is)) sends;
}

-- ---- a call that comes takes the lock from nobody

if_holder : (may : Bool) (c d : Calls) → d.holder ≡ c.holder → (if may then d else c).holder ≡ c.holder
if_holder true c d same = same
if_holder false c d same = refl

more_holder : (c : Calls) (tries : Bool) → (one_more c tries).holder ≡ c.holder
more_holder c true = refl
more_holder c false = refl

pub wanted_done : (client votes before after : List ℕ) (tries : Bool) (why : ℕ) (l new : Lock) (stored : Calls) → IsLock client votes before l
    → ((m : Lock) → IsLock client votes before m → m ≡ l) → new ≡ with_calls l (wanted l.calls (phase_of l.client) tries) → AreCalls after stored
    → stored ≡ new.calls → why ≡ fault_number (call_fault l.calls (phase_of l.client) tries) → LockIsWanted client votes tries before after why done
wanted_done client votes before after tries why l new stored was only new_is are_calls stored_is why_is =
    let calls : Calls = wanted l.calls (phase_of l.client) tries in
    let are : stored ≡ calls = stored_is ∙ ap (λ (k : Lock). k.calls) new_is in
    let stays : calls.holder ≡ l.calls.holder =
    if_holder (is_none (call_fault l.calls (phase_of l.client) tries)) l.calls (one_more l.calls tries) (more_holder l.calls tries) in
    let lock : IsLock client votes after (with_calls l calls) = record {
      is_client = was.is_client;
      are_votes = was.are_votes;
      are_calls = subst (λ (c : Calls). AreCalls after c) are are_calls;
      sound = subst (λ (h : Option Holder). is_had_inside l.client h ≡ true) (sym stays) was.sound;
    } in
    record {
      no_lock = λ none. absurd (none l was);
      wants = λ m such.
          subst
          (λ (k : Lock). (done ≡ done) × IsLock client votes after (with_calls k (wanted k.calls (phase_of k.client) tries))
          × (why ≡ fault_number (call_fault k.calls (phase_of k.client) tries)))
          (sym (only m such)) (refl, lock, why_is);
    }
