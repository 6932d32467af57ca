-- One lock of one session: its client (Maekawa, "A sqrt(N) algorithm for mutual exclusion in decentralized systems", ACM TOCS 3(2), 1985),
-- what the session keeps of the vote of each voter, and the calls for the lock. The leases of the voters are those of the session.
use Rattle.std.specs.Prelude.{ℕ, ◌-◌, ◌==◌, ◌≡◌, nat_lt, nat_le, min, Bool, true, false, ◌&&◌, ◌||◌, not, List, [], ◌∷◌, map, replicate, slice_set, Option, Some, None, is_some, if◌then◌else◌, Result, Ok, Err}
use Rattle.std.specs.List.{list_any, slice_get}
use Rattle.message.specs.declared.message.ClientBody.{ClientBody}
use Rattle.message.specs.declared.message.ClientBody.TheVariants as to_client
use Rattle.message.specs.declared.message.ToClient.{ToClient}
use Rattle.message.specs.declared.message.ToVoter.{ToVoter}
use Rattle.message.specs.declared.message.VoterBody.{VoterBody}
use Rattle.message.specs.declared.message.VoterBody.TheVariants as to_voter
use Rattle.requester.specs.declared.fault.ClientFault.{ClientFault}
use Rattle.requester.specs.declared.state.ClientState.{ClientState}
use Rattle.requester.specs.declared.state.Phase.{Phase as ClientPhase}
use Rattle.requester.specs.declared.state.Phase.TheVariants.{Idle, Asking, Inside}
use Rattle.requester.specs.declared.state.Seen.{Seen}
use Rattle.requester.specs.Leases.{anew}
use Rattle.requester.specs.Steps.{Outcome, ask, give_up, leave, see, take}
use Rattle.requester.specs.Words.{is_idle, is_inside, members}
use Rattle.vote_leases.specs.Leases.{asked, begun_vote, ended, given_back, kept, taken, until as end_of}
use Rattle.vote_leases.specs.declared.incarnation.Incarnation.{Incarnation}
use Rattle.vote_leases.specs.declared.lease.VoterLease.{VoterLease}
use Rattle.vote_leases.specs.declared.vote.Locked.{Locked}
use Rattle.vote_leases.specs.declared.vote.Vote.{Vote}
use Rattle.callers.specs.Calls.{begun as begun_calls, handed, has_lock, may_end, may_hand, next as next_call}
use Rattle.callers.specs.declared.calls.Calls.{Calls}
use Rattle.callers.specs.declared.calls.Holder.{Holder}
use Rattle.callers.specs.declared.calls.Next.{Next}
use Rattle.callers.specs.declared.calls.Phase.{Phase}
use Rattle.callers.specs.declared.calls.Phase.TheVariants as seen_as
use Rattle.client_node.specs.declared.fault.LockFault.{LockFault}
use Rattle.client_node.specs.declared.fault.LockFault.TheVariants.{HasLock, OfClient}

pub record Lock : Type 0 where
  pub client : ClientState
  -- what is kept of the vote of each voter, by its number
  pub votes : List Vote
  pub calls : Calls

-- nobody wants the lock yet, and the session used no stamp above this one
abbrev pub begun_lock : ℕ → ℕ → ℕ → Lock
begun_lock id limit used = record { client = anew id limit used; votes = replicate 64 (begun_vote used); calls = begun_calls used }

-- the client's phase, as its calls see it
abbrev pub phase_in : ClientPhase → ℕ → Phase
phase_in Idle stamp = seen_as.Idle
phase_in Asking stamp = seen_as.Asking
phase_in Inside stamp = seen_as.Inside stamp

abbrev pub phase_of : ClientState → Phase
phase_of x = phase_in x.phase x.stamp

-- ---- a call has the lock only while the client is inside

-- the client is inside by its request of this stamp
abbrev pub is_inside_by : ClientState → ℕ → Bool
is_inside_by x request = is_inside x.phase && x.stamp == request

-- it is by its own request that a call may have the lock
abbrev pub is_had_inside : ClientState → Option Holder → Bool
is_had_inside x None = true
is_had_inside x (Some h) = is_inside_by x h.request

-- If a call has the lock, the client is inside by the request under which the call has it.
abbrev pub IsSound : Lock → Type 0
IsSound l = is_had_inside l.client l.calls.holder ≡ true

-- ---- up to when the votes count

-- up to when a vote counts for the request of this stamp, where a heartbeat counts for this span
abbrev pub vote_end : ℕ → ℕ → Vote → VoterLease → Option ℕ
vote_end span request v l = if v.is_open && v.request == request then end_of v l span else None

-- a vote of which no lease is known does not count
abbrev pub known_end : ℕ → ℕ → Option Vote → Option VoterLease → Option ℕ
known_end span request None l = None
known_end span request (Some v) None = None
known_end span request (Some v) (Some l) = vote_end span request v l

abbrev pub voter_end : ℕ → ℕ → List Vote → List VoterLease → ℕ → Option ℕ
voter_end span request votes leases voter = known_end span request (slice_get votes voter) (slice_get leases voter)

-- the earlier one of two times, if there are both
abbrev pub earlier : Option ℕ → Option ℕ → Option ℕ
earlier None second = None
earlier (Some first) None = None
earlier (Some first) (Some second) = Some (min first second)

-- The first end of the votes of these voters, if they all count. The greatest number of 64 bits stands for later times.
abbrev pub first_end : ℕ → ℕ → List Vote → List VoterLease → List ℕ → Option ℕ
first_end span request votes leases [] = Some 18446744073709551615
first_end span request votes leases (voter ∷ voters) =
    earlier (voter_end span request votes leases voter) (first_end span request votes leases voters)

-- Up to when all votes of the quorum count, if a request runs.
abbrev pub until : Lock → List VoterLease → ℕ → Option ℕ
until l leases span =
    if is_idle l.client.phase then None else first_end span l.client.stamp l.votes leases (members l.client)

-- a time is before that
abbrev pub is_before : ℕ → Option ℕ → Bool
is_before now None = false
is_before now (Some end) = nat_lt now end

-- all votes count at this time
abbrev pub counts : Lock → List VoterLease → ℕ → ℕ → Bool
counts l leases span now = is_before now (until l leases span)

-- up to when the call that has the lock has it
abbrev pub tells : Lock → List VoterLease → ℕ → Option ℕ
tells l leases span = if has_lock l.calls then until l leases span else None

-- ---- votes that somebody else may have

-- A vote that is taken may be somebody else's: it does not count any more. If it did not begin to count, that is so once nothing was
-- acknowledged for a span since its voter's incarnation is known.
abbrev pub is_over : ℕ → ℕ → ℕ → Option ℕ → Bool
is_over span now since None = nat_lt span (now - since)
is_over span now since (Some end) = nat_le end now

-- a vote is doubtful that does not go on for the request, and one that is taken and may be somebody else's
abbrev pub is_vote_doubtful : ℕ → ℕ → ℕ → Vote → VoterLease → ℕ → Bool
is_vote_doubtful span request now v l since =
    not (v.is_open && v.request == request) || (is_some v.taken && is_over span now since (end_of v l span))

-- so is one of which nothing is known
abbrev pub is_known_doubtful : ℕ → ℕ → ℕ → Option Vote → Option VoterLease → Option ℕ → Bool
is_known_doubtful span request now None l since = true
is_known_doubtful span request now (Some v) None since = true
is_known_doubtful span request now (Some v) (Some l) None = true
is_known_doubtful span request now (Some v) (Some l) (Some since) = is_vote_doubtful span request now v l since

abbrev pub is_voter_doubtful : ℕ → ℕ → ℕ → List Vote → List VoterLease → List ℕ → ℕ → Bool
is_voter_doubtful span request now votes leases since voter =
    is_known_doubtful span request now (slice_get votes voter) (slice_get leases voter) (slice_get since voter)

-- one of the votes of the quorum is, if a request runs
abbrev pub is_doubtful : Lock → List VoterLease → List ℕ → ℕ → ℕ → Bool
is_doubtful l leases since span now =
    not (is_idle l.client.phase) && list_any (is_voter_doubtful span l.client.stamp now l.votes leases since) (members l.client)

-- what the session has to do next for the calls
abbrev pub next : Lock → List VoterLease → List ℕ → ℕ → ℕ → Next
next l leases since span now =
    next_call l.calls (phase_of l.client) (counts l leases span now) (is_doubtful l leases since span now)

-- ---- what is done at votes

-- what a request of this stamp does to all votes as it begins, and as it ends
abbrev pub all_asked : List Vote → ℕ → List Vote
all_asked votes request = map (λ v. asked v request) votes

abbrev pub all_ended : List Vote → ℕ → List Vote
all_ended votes request = map (λ v. ended v request) votes

-- the vote of this voter is given back, whose grant has this number
abbrev pub returned_to : List Vote → ℕ → ℕ → Option Vote → List Vote
returned_to votes voter number None = votes
returned_to votes voter number (Some v) = slice_set votes voter (given_back v number)

-- What a message that leaves ends or gives back: a RELEASE ends a request, and a RELINQUISH gives a vote back.
abbrev pub noted_body : List Vote → ℕ → VoterBody → List Vote
noted_body votes voter (to_voter.Request stamp) = votes
noted_body votes voter (to_voter.Relinquish number) = returned_to votes voter number (slice_get votes voter)
noted_body votes voter (to_voter.Release stamp) = all_ended votes stamp

abbrev pub noted : List Vote → ToVoter → List Vote
noted votes m = noted_body votes m.voter m.body

-- these leave, in order
abbrev pub all_noted : List Vote → List ToVoter → List Vote
all_noted votes [] = votes
all_noted votes (m ∷ ms) = all_noted (noted votes m) ms

-- a LOCKED that names this request and this number, with its header, and whether it only renews a vote
abbrev pub locked_of : Bool → Incarnation → ℕ → ℕ → Locked
locked_of renews incarnation request number =
    record { incarnation = incarnation; request = request; number = number; renews = renews }

-- the vote of this voter takes a LOCKED, if its lease is known
abbrev pub taken_at : ℕ → ℕ → List Vote → ℕ → Locked → Option Vote → Option VoterLease → List Vote
taken_at span now votes voter locked None l = votes
taken_at span now votes voter locked (Some v) None = votes
taken_at span now votes voter locked (Some v) (Some l) = slice_set votes voter (taken v l locked span now)

-- What a message brings to the votes: only a LOCKED brings one.
abbrev pub brought : Bool → Incarnation → List VoterLease → ℕ → ℕ → List Vote → ℕ → ClientBody → List Vote
brought renews incarnation leases span now votes voter (to_client.Locked stamp number) =
    taken_at span now votes voter (locked_of renews incarnation stamp number) (slice_get votes voter) (slice_get leases voter)
brought renews incarnation leases span now votes voter (to_client.Fail stamp) = votes
brought renews incarnation leases span now votes voter (to_client.Inquire number) = votes

-- the vote of this voter keeps what counts for it
abbrev pub kept_at : List Vote → ℕ → Option Vote → Option VoterLease → List Vote
kept_at votes voter None l = votes
kept_at votes voter (Some v) None = votes
kept_at votes voter (Some v) (Some l) = slice_set votes voter (kept v l)

-- ---- the steps of the client

-- what is sent, in order, what is seen, and the lock afterwards
pub record LockOutcome : Type 0 where
  pub out : List ToVoter
  pub seen : Seen
  pub lock : Lock

-- A request begins, if the client may ask: it asks at all votes.
abbrev pub asked_with : Lock → Result Outcome ClientFault → Result LockOutcome ClientFault
asked_with l (Err fault) = Err fault
asked_with l (Ok o) =
    Ok (record { out = o.out; seen = o.seen; lock = record { client = o.state; votes = all_asked l.votes o.state.stamp; calls = l.calls } })

abbrev pub ask_lock : Lock → List ℕ → Result LockOutcome ClientFault
ask_lock l quorum = asked_with l (ask l.client quorum)

-- The client takes a message. Votes take what it brings, and note what leaves. A LOCKED renews a vote if the client was inside.
abbrev pub took : Lock → Incarnation → List VoterLease → ℕ → ℕ → ToClient → Outcome → LockOutcome
took l incarnation leases span now m o = record {
  out = o.out;
  seen = o.seen;
  lock = record {
    client = o.state;
    votes = all_noted (brought (is_inside l.client.phase) incarnation leases span now l.votes m.voter m.body) o.out;
    calls = l.calls;
  };
}

abbrev pub take_lock : Lock → Incarnation → List VoterLease → ℕ → ℕ → ToClient → LockOutcome
take_lock l incarnation leases span now m = took l incarnation leases span now m (take l.client m)

-- the request ends, and counts for no vote any more
abbrev pub ended_with : Lock → Result Outcome ClientFault → Result LockOutcome LockFault
ended_with l (Err fault) = Err (OfClient fault)
ended_with l (Ok o) =
    Ok (record { out = o.out; seen = o.seen; lock = record { client = o.state; votes = all_ended l.votes l.client.stamp; calls = l.calls } })

-- No request ends under which a call has the lock.
abbrev pub if_may_end : Lock → Result LockOutcome LockFault → Result LockOutcome LockFault
if_may_end l end = if may_end l.calls l.client.stamp then end else Err HasLock

-- the client leaves, or gives its request up
abbrev pub leave_lock : Lock → Result LockOutcome LockFault
leave_lock l = if_may_end l (ended_with l (leave l.client))

abbrev pub give_up_lock : Lock → Result LockOutcome LockFault
give_up_lock l = if_may_end l (ended_with l (give_up l.client))

-- the client's clock is raised to this stamp, if it is behind
abbrev pub raise_lock : Lock → ℕ → Lock
raise_lock l clock = record { client = see l.client clock; votes = l.votes; calls = l.calls }

-- the vote of a voter keeps what counts for it, before the session hears of a later incarnation
abbrev pub keep_lock : Lock → List VoterLease → ℕ → Lock
keep_lock l leases voter =
    record { client = l.client; votes = kept_at l.votes voter (slice_get l.votes voter) (slice_get leases voter); calls = l.calls }

-- ---- the lock and its calls

-- what comes to the calls leaves client and votes as they are
abbrev pub with_calls : Lock → Calls → Lock
with_calls l calls = record { client = l.client; votes = l.votes; calls = calls }

-- the lock is handed to the first call that waits, if all votes count now
abbrev pub hand_lock : Lock → List VoterLease → ℕ → ℕ → Lock
hand_lock l leases span now = with_calls l (handed l.calls (phase_of l.client) (counts l leases span now))

-- and up to when that call has it, if it was handed the lock
abbrev pub handed_until : Lock → List VoterLease → ℕ → ℕ → Option ℕ
handed_until l leases span now =
    if may_hand l.calls (phase_of l.client) (counts l leases span now) then until l leases span else None
