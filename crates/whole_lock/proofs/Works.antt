-- who works by its calls has the votes of automata
use Rattle.std.proofs.Common.{◌≡◌, ◌≤◌, ◌+◌, ◌*◌, ℕ, List, true, sym, subst}
use Rattle.std.specs.List.{AllByRecursion}
use Rattle.working.specs.Events.{DoMeet, Event, IsRated, Works, after_all, begins}
use Rattle.working.specs.Sessions.{is_working}
use Rattle.vote_leases.specs.Sessions.{AreTold, events_of}
use Rattle.vote_leases.specs.declared.incarnation.Incarnation.{Incarnation}
use Rattle.callers.specs.Worlds.{CallWorks, begun_caller, caller_after, steps_of}
use Rattle.callers.proofs.Working.{call_has_votes}
use Rattle.client_node.specs.Worlds.{AllMet, MayBegin, NodeStep, all_steps, begun_locks}
use Rattle.client_node.proofs.All.{node_goes}
use Rattle.working_votes.specs.Turns.{AreFree, AreTrue, Askers, Place, Turn, all_after, all_events}
use Rattle.working_votes.proofs.Votes.{has_votes}
use Rattle.whole_lock.specs.Quorums.{HasQuorum}

pub has_quorum : (who : Askers) (lapses : ℕ → ℕ → Incarnation → ℕ) (a b ttl lease stop : ℕ) (periods times sessions : ℕ → ℕ) (places : ℕ → Place) (turns : List Turn)
    (ids limits used : ℕ → ℕ) (quorums : List (List ℕ)) (steps : List NodeStep) (me request : ℕ)
    → 1 ≤ b → AllByRecursion (IsRated a b) (all_events who places turns) → b * (lease + stop) ≤ a * ttl → DoMeet quorums
    → AreFree places → AreTrue who ttl (lease + stop) (begins periods times sessions) places turns
    → events_of (steps_of (all_steps lease (begun_locks ids limits used) steps)) ≡ all_events who places turns
    → AreTold lapses ttl (lease + stop) (begins periods times sessions) (steps_of (all_steps lease (begun_locks ids limits used) steps))
    → MayBegin (ids me) (limits me) (used me)
    → AllMet ttl lease (lease + stop) me quorums (begins periods times sessions) (begun_caller (used me)) (begun_locks ids limits used) steps
    → CallWorks stop ((after_all ttl (lease + stop) (begins periods times sessions) (all_events who places turns)).sessions me).time
    (caller_after ttl lease (lease + stop) me (begins periods times sessions) (begun_caller (used me)) (all_steps lease (begun_locks ids limits used) steps)) request
    → HasQuorum who (all_after places turns) me request quorums
has_quorum who lapses a b ttl lease stop periods times sessions places turns ids limits used quorums steps me request some rated bound meet free is same told may met works =
    let w = begins periods times sessions in
    let all = all_steps lease (begun_locks ids limits used) steps in
    let o = caller_after ttl lease (lease + stop) me w (begun_caller (used me)) all in
    let by_votes : Works lease stop quorums (after_all ttl (lease + stop) w (events_of (steps_of all))) me request =
    call_has_votes lapses ttl lease stop periods times sessions (used me) all quorums me request meet told
    (node_goes ttl lease (lease + stop) periods times sessions ids limits used quorums me steps may met).told
    (subst (λ (events : List Event). CallWorks stop ((after_all ttl (lease + stop) w events).sessions me).time o request) (sym same) works) in record {
      quorum = by_votes.quorum;
      is_quorum = by_votes.is_quorum;
      votes = has_votes who a b ttl lease stop periods times sessions places turns me request by_votes.quorum some rated bound free is
          (subst (λ (events : List Event). is_working lease stop ((after_all ttl (lease + stop) w events).sessions me) request by_votes.quorum ≡ true) same by_votes.works);
    }
