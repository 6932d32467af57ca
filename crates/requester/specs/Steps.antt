-- The steps of a client: what it sends after a call or a message, what is seen of it, and its state
-- afterwards (Maekawa, ACM TOCS 3(2), 1985, with grant numbers for messages that are repeated, lost
-- or late).
use Rattle.std.specs.Prelude.{ℕ, ◌+◌, ◌==◌, nat_lt, Bool, true, false, ◌&&◌, not, List, [], ◌∷◌, ◌++◌, map, filter, max, replicate, slice_set, Option, Some, None, if◌then◌else◌, Result, Ok, Err}
use Rattle.std.specs.List.{flat_map}
use Rattle.numbers.specs.Bounds.{max_voters}
use Rattle.message.specs.declared.message.ToVoter.{ToVoter}
use Rattle.message.specs.declared.message.ToClient.{ToClient}
use Rattle.message.specs.declared.message.VoterBody.{VoterBody}
use Rattle.message.specs.declared.message.VoterBody.TheVariants as asks
use Rattle.message.specs.declared.message.ClientBody.{ClientBody}
use Rattle.message.specs.declared.message.ClientBody.TheVariants as to_client
use Rattle.requester.specs.declared.fault.ClientFault.{ClientFault}
use Rattle.requester.specs.declared.fault.ClientFault.TheVariants.{Busy, NotInside, NotAsking, StampsSpent}
use Rattle.requester.specs.declared.state.Phase.{Phase}
use Rattle.requester.specs.declared.state.Phase.TheVariants.{Idle, Asking, Inside}
use Rattle.requester.specs.declared.state.Seen.{Seen}
use Rattle.requester.specs.declared.state.Seen.TheVariants.{Nothing, Entered, Left}
use Rattle.requester.specs.declared.state.ClientState.{ClientState}
use Rattle.requester.specs.Words.{members, is_member, is_current, is_idle, is_asking, is_inside, is_spent, held_of, holds, holds_under, is_covered, last_of, is_relinquished, is_inquired, is_hindered, with_voter, without_voter}

-- what is sent, in order, what is seen, and the client afterwards
pub record Outcome : Type 0 where
  pub out : List ToVoter
  pub seen : Seen
  pub state : ClientState

-- no message, nothing seen, and the state stays as it was
abbrev pub no_effect : ClientState → Outcome
no_effect x = record { out = []; seen = Nothing; state = x }

-- a message of this client to a voter
abbrev pub tell : ClientState → ℕ → VoterBody → ToVoter
tell x voter body = record { client = x.id; voter = voter; body = body }

-- the same message to each member of the quorum, in ascending order
abbrev pub send_to_members : ClientState → VoterBody → List ToVoter
send_to_members x body = map (λ v. tell x v body) (members x)

-- no vote is held, and no voter is marked
abbrev pub clear_votes : ClientState → ClientState
clear_votes x = record x {
  held = replicate max_voters 0;
  failed = [];
  relinquished = [];
  inquired = [];
}

-- Asking

-- a new request; its stamp is the next one of the clock
abbrev pub begin_request : ClientState → List ℕ → ClientState
begin_request x quorum = record (clear_votes x) {
  clock = x.clock + 1;
  stamp = x.clock + 1;
  phase = Asking;
  quorum = record { items = quorum };
}

-- REQUEST to each member
abbrev pub send_requests : ClientState → List ℕ → Outcome
send_requests x quorum = record {
  out = send_to_members (begin_request x quorum) (asks.Request (x.clock + 1));
  seen = Nothing;
  state = begin_request x quorum;
}

-- the outcome, unless there is a fault
abbrev pub unless : {F G : Type 0} → Option G → F → Result F G
unless None outcome = Ok outcome
unless (Some fault) outcome = Err fault

-- why a client can't ask: it is not idle, or no stamp is left
abbrev pub ask_fault : ClientState → Option ClientFault
ask_fault x = if is_idle x.phase then (if is_spent x then Some StampsSpent else None) else Some Busy

-- a client asks a quorum
unfoldable pub ask : ClientState → List ℕ → Result Outcome ClientFault
ask x quorum = unless (ask_fault x) (send_requests x quorum)

-- Giving votes back

-- A vote that is held goes back to its voter by RELINQUISH with its grant. That grant is then the
-- last one given back.
abbrev pub relinquish_if : Bool → ClientState → ℕ → Outcome
relinquish_if false x voter = no_effect x
relinquish_if true x voter = record {
  out = tell x voter (asks.Relinquish (held_of x voter)) ∷ [];
  seen = Nothing;
  state = record x {
    held = slice_set x.held voter 0;
    last = slice_set x.last voter (held_of x voter);
    inquired = without_voter x.inquired voter;
    relinquished = with_voter x.relinquished voter;
  };
}

-- a vote that is held is given back, and the client goes on asking
unfoldable pub relinquish : ClientState → ℕ → Outcome
relinquish x voter = relinquish_if (holds x voter) x voter

-- each of these votes is given back, in order
abbrev pub relinquish_each : ClientState → List ℕ → Outcome
relinquish_each x [] = no_effect x
relinquish_each x (v ∷ vs) = record {
  out = (relinquish x v).out ++ (relinquish_each (relinquish x v).state vs).out;
  seen = Nothing;
  state = (relinquish_each (relinquish x v).state vs).state;
}

-- the vote is given back if its voter is marked as inquired
abbrev pub relinquish_marked_if : Bool → ClientState → ℕ → Outcome
relinquish_marked_if false x voter = no_effect x
relinquish_marked_if true x voter = relinquish x voter

-- a vote that its voter asked for is given back
abbrev pub relinquish_marked : ClientState → ℕ → Outcome
relinquish_marked x voter = relinquish_marked_if (is_inquired x voter) x voter

-- of these voters, those marked as inquired get their votes back
abbrev pub relinquish_inquired : ClientState → List ℕ → Outcome
relinquish_inquired x voters = relinquish_each x (filter (is_inquired x) voters)

-- LOCKED

-- a grant counts if it is a member's whose vote is not held, and is newer than the last one given
-- back
abbrev pub is_fresh : ClientState → ℕ → ℕ → Bool
is_fresh x voter grant = is_member x voter && not (holds x voter) && nat_lt (last_of x voter) grant

-- the vote is held under this grant, and its voter is no longer marked
abbrev pub hold : ClientState → ℕ → ℕ → ClientState
hold x voter grant = record x {
  held = slice_set x.held voter grant;
  failed = without_voter x.failed voter;
  relinquished = without_voter x.relinquished voter;
  inquired = without_voter x.inquired voter;
}

-- the client enters if it holds the vote of each member
abbrev pub enter_if : Bool → ClientState → Outcome
enter_if false x = no_effect x
enter_if true x = record { out = []; seen = Entered; state = record x { phase = Inside } }

-- By whether the request of this stamp runs, and whether the grant counts. A vote for any other
-- request goes back by RELEASE.
abbrev pub take_locked_by : Bool → Bool → ClientState → ℕ → ℕ → ℕ → Outcome
take_locked_by false fresh x voter stamp grant =
    record { out = tell x voter (asks.Release stamp) ∷ []; seen = Nothing; state = x }
take_locked_by true false x voter stamp grant = no_effect x
take_locked_by true true x voter stamp grant = enter_if (is_covered (hold x voter grant)) (hold x voter grant)

-- LOCKED: a vote for another request than the one that runs goes back by RELEASE. A vote that
-- doesn't count does nothing. A vote that counts is held, and with the last member's vote the
-- client enters.
unfoldable pub take_locked : ClientState → ℕ → ℕ → ℕ → Outcome
take_locked x voter stamp grant = take_locked_by (is_current x stamp) (is_fresh x voter grant) x voter stamp grant

-- FAIL

-- the voter is marked as failed: it sent FAIL
abbrev pub fail : ClientState → ℕ → ClientState
fail x voter = record x { failed = with_voter x.failed voter }

-- By whether the message counts. If it does, the request can't win yet, so votes that were asked
-- for are given back.
abbrev pub take_fail_by : Bool → ClientState → ℕ → Outcome
take_fail_by false x voter = no_effect x
take_fail_by true x voter = relinquish_inquired (fail x voter) (members x)

-- FAIL counts while the client asks under this stamp, from a member whose vote is not held
unfoldable pub take_fail : ClientState → ℕ → ℕ → Outcome
take_fail x voter stamp =
    take_fail_by (is_asking x.phase && stamp == x.stamp && is_member x voter && not (holds x voter)) x voter

-- INQUIRE

-- the voter is marked as asking for its vote
abbrev pub inquire : ClientState → ℕ → ClientState
inquire x voter = record x { inquired = with_voter x.inquired voter }

-- By whether the message counts, and whether the request can't win yet. If it can't, the vote is
-- given back. If it still may, the vote is kept. If the client is inside, the RELEASE when it
-- leaves is the reply.
abbrev pub take_inquire_by : Bool → Bool → ClientState → ℕ → Outcome
take_inquire_by false hindered x voter = no_effect x
take_inquire_by true false x voter = no_effect (inquire x voter)
take_inquire_by true true x voter = relinquish x voter

-- INQUIRE counts while the client asks, if it holds the vote under this grant
unfoldable pub take_inquire : ClientState → ℕ → ℕ → Outcome
take_inquire x voter grant = take_inquire_by (is_asking x.phase && holds_under x voter grant) (is_hindered x) x voter

-- Any message

-- the clock is raised to this stamp, if it is behind
abbrev pub see : ClientState → ℕ → ClientState
see x stamp = record x { clock = max x.clock stamp }

-- a message, by its kind
abbrev pub take_body : ClientState → ℕ → ClientBody → Outcome
take_body x voter (to_client.Locked stamp grant) = take_locked x voter stamp grant
take_body x voter (to_client.Fail stamp) = take_fail x voter stamp
take_body x voter (to_client.Inquire grant) = take_inquire x voter grant

-- the client takes a message
unfoldable pub take : ClientState → ToClient → Outcome
take x m = take_body (see x m.seen) m.voter m.body

-- whether the client would hold the vote of a message: the message is a LOCKED that counts
abbrev pub would_hold_body : ClientState → ℕ → ClientBody → Bool
would_hold_body x voter (to_client.Locked stamp grant) = is_current x stamp && is_fresh x voter grant
would_hold_body x voter (to_client.Fail stamp) = false
would_hold_body x voter (to_client.Inquire grant) = false

-- whether the message is a LOCKED that counts
unfoldable pub would_hold : ClientState → ToClient → Bool
would_hold x m = would_hold_body x m.voter m.body

-- Leaving and giving up

-- RELEASE to each member, and the request is over
abbrev pub end_request : ClientState → Seen → Outcome
end_request x seen = record {
  out = send_to_members x (asks.Release x.stamp);
  seen = seen;
  state = record (clear_votes x) { phase = Idle };
}

-- a client that is inside leaves
unfoldable pub leave : ClientState → Result Outcome ClientFault
leave x = unless (if is_inside x.phase then None else Some NotInside) (end_request x Left)

-- a client that asks gives up its request
unfoldable pub give_up : ClientState → Result Outcome ClientFault
give_up x = unless (if is_asking x.phase then None else Some NotAsking) (end_request x Nothing)

-- One step

-- the cause of a client's step: one of three calls, or a message
pub data Cause : Type 0 where
  Asks : List ℕ → Cause
  Takes : ToClient → Cause
  Leaves : Cause
  GivesUp : Cause

-- a step of a client, by its cause
unfoldable pub step : ClientState → Cause → Result Outcome ClientFault
step x (Asks quorum) = ask x quorum
step x (Takes m) = Ok (take x m)
step x Leaves = leave x
step x GivesUp = give_up x

-- Reminders

-- by whether the member's vote is held, and whether it was given back
abbrev pub remind_by : Bool → Bool → ClientState → ℕ → List ToVoter
remind_by true given_back x voter = []
remind_by false false x voter = tell x voter (asks.Request x.stamp) ∷ []
remind_by false true x voter =
    tell x voter (asks.Relinquish (last_of x voter)) ∷ tell x voter (asks.Request x.stamp) ∷ []

-- what is sent to a member again: nothing if its vote is held, else RELINQUISH if the vote was
-- given back, and REQUEST
abbrev pub remind_member : ClientState → ℕ → List ToVoter
remind_member x voter = remind_by (holds x voter) (is_relinquished x voter) x voter

-- only a client that asks sends reminders
abbrev pub remind_in : Phase → ClientState → List ToVoter
remind_in Idle x = []
remind_in Asking x = flat_map (remind_member x) (members x)
remind_in Inside x = []

-- what to send again, in case messages were lost
unfoldable pub remind : ClientState → List ToVoter
remind x = remind_in x.phase x

-- The first state

-- a new client, which has asked for nothing and taken no message
abbrev pub start : ℕ → ℕ → ClientState
start id limit = record {
  id = id;
  limit = limit;
  clock = 0;
  phase = Idle;
  stamp = 0;
  quorum = record { items = [] };
  held = replicate max_voters 0;
  last = replicate max_voters 0;
  failed = [];
  relinquished = [];
  inquired = [];
}
