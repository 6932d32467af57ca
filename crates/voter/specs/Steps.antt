-- The steps of a voter: its replies to a message, and its state afterwards (Maekawa, ACM TOCS 3(2),
-- 1985, with rules for repeated messages).
use Rattle.std.specs.Prelude.{ℕ, ◌≡◌, ◌≤◌, ◌+◌, ◌==◌, nat_lt, nat_le, Bool, true, false, ◌&&◌, ◌||◌, not, List, [], ◌∷◌, ◌++◌, Option, Some, None, if◌then◌else◌, slice_index, slice_set, replicate, max, is_none, is_some}
use Rattle.std.specs.FinMap.{get, insert, remove, empty}
use Rattle.numbers.specs.Bounds.{max_clients, max_limit}
use Rattle.message.specs.declared.request.Request.{Request}
use Rattle.message.specs.declared.message.ToVoter.{ToVoter}
use Rattle.message.specs.declared.message.ToClient.{ToClient}
use Rattle.message.specs.declared.message.VoterBody.{VoterBody}
use Rattle.message.specs.declared.message.VoterBody.TheVariants as asks
use Rattle.message.specs.declared.message.ClientBody.{ClientBody}
use Rattle.message.specs.declared.message.ClientBody.TheVariants as to_client
use Rattle.voter.specs.declared.state.Grant.{Grant}
use Rattle.voter.specs.declared.state.VoterState.{VoterState}
use Rattle.voter.specs.declared.state.Effect.{Effect}
use Rattle.message.specs.Requests.{precedes}
use Rattle.voter.specs.Waiting.{front}

-- the replies, in order, and the voter afterwards
pub record Outcome : Type 0 where
  pub replies : List ToClient
  pub state : VoterState

-- no reply, and the state stays as it was
abbrev pub no_reply : VoterState → Outcome
no_reply v = record { replies = []; state = v }

-- one outcome and then another: the replies of both, and the state after the second
abbrev pub and_then : Outcome → Outcome → Outcome
and_then a b = record { replies = a.replies ++ b.replies; state = b.state }

-- a reply to this client; it carries the highest stamp that the voter saw
abbrev pub reply : VoterState → ℕ → ClientBody → ToClient
reply v client body = record { voter = v.id; client = client; seen = v.seen; body = body }

-- Granting

-- the vote goes to this request under the next grant number, and the request no longer waits
abbrev pub granted_to : VoterState → Request → VoterState
granted_to v r = record v {
  held = Some (record { client = r.client; stamp = r.stamp; grant = v.granted + 1 });
  inquiring = false;
  waiting = remove v.waiting r.client;
  granted = v.granted + 1;
}

-- the request, if there is one, gets the vote, and its client receives LOCKED
abbrev pub grant_to : VoterState → Option Request → Outcome
grant_to v None = no_reply v
grant_to v (Some r) = record {
  replies = reply v r.client (to_client.Locked r.stamp (v.granted + 1)) ∷ [];
  state = granted_to v r;
}

-- the vote goes to the front of the queue, if a request waits
unfoldable pub grant_front : VoterState → Outcome
grant_front v = grant_to v (front v.waiting)

-- the current grant ends
abbrev pub free_vote : VoterState → VoterState
free_vote v = record v { held = None; inquiring = false }

-- the stamp under which this client holds the vote, if it does
abbrev pub held_stamp : Option Grant → ℕ → Option ℕ
held_stamp None client = None
held_stamp (Some g) client = if g.client == client then Some g.stamp else None

-- the first if there is one, else the second
abbrev pub first_some : Option ℕ → Option ℕ → Option ℕ
first_some None o = o
first_some (Some s) o = Some s

-- the stamp of the client's current request: the one that holds the vote, or else the one that
-- waits
abbrev pub current_stamp : VoterState → ℕ → Option ℕ
current_stamp v client = first_some (held_stamp v.held client) (get v.waiting client)

-- RELEASE

-- there is a stamp, and it is at most this one
abbrev pub is_up_to : Option ℕ → ℕ → Bool
is_up_to None stamp = false
is_up_to (Some s) stamp = nat_le s stamp

-- the client's requests up to this stamp are finished
abbrev pub finish : VoterState → ℕ → ℕ → VoterState
finish v client stamp = record v { finished = slice_set v.finished client (max (slice_index v.finished client) stamp) }

-- the client no longer waits
abbrev pub withdraw : VoterState → ℕ → VoterState
withdraw v client = record v { waiting = remove v.waiting client }

-- by whether the client holds the vote under a stamp up to this one, and whether it waits under one
abbrev pub take_release_by : Bool → Bool → VoterState → ℕ → ℕ → Outcome
take_release_by true waits v client stamp = grant_front (free_vote (finish v client stamp))
take_release_by false true v client stamp = no_reply (withdraw (finish v client stamp) client)
take_release_by false false v client stamp = no_reply (finish v client stamp)

-- RELEASE: the client's requests up to this stamp are finished. If one of them holds the vote, the
-- vote goes to the front of the queue. If one waits, it leaves the queue.
unfoldable pub take_release : VoterState → ℕ → ℕ → Outcome
take_release v client stamp =
    take_release_by (is_up_to (held_stamp v.held client) stamp) (is_up_to (get v.waiting client) stamp) v client stamp

-- REQUEST

-- the client waits with this stamp
abbrev pub queue : VoterState → ℕ → ℕ → VoterState
queue v client stamp = record v { waiting = insert v.waiting client stamp }

-- INQUIRE to the holder, unless one is outstanding
abbrev pub inquiry : Bool → VoterState → Grant → List ToClient
inquiry true v g = []
inquiry false v g = reply v g.client (to_client.Inquire g.grant) ∷ []

-- FAIL to the request that was first in the queue until now, if any
abbrev pub fail_former : VoterState → Option Request → List ToClient
fail_former v None = []
fail_former v (Some q) = reply v q.client (to_client.Fail q.stamp) ∷ []

-- A new request while another one holds the vote, by whether a waiting request precedes it, and
-- whether the granted one does. If one of them does, the new request receives FAIL. Otherwise the
-- holder receives INQUIRE, unless one is outstanding. If the new request is first in the queue, the
-- former first one receives FAIL.
abbrev pub join_queue_by : Bool → Bool → VoterState → Grant → ℕ → ℕ → Outcome
join_queue_by true granted v g client stamp = record {
  replies = reply v client (to_client.Fail stamp) ∷ [];
  state = queue v client stamp;
}
join_queue_by false true v g client stamp = record {
  replies = reply v client (to_client.Fail stamp) ∷ fail_former v (front v.waiting);
  state = queue v client stamp;
}
join_queue_by false false v g client stamp = record {
  replies = inquiry v.inquiring v g ++ fail_former v (front v.waiting);
  state = record (queue v client stamp) { inquiring = true };
}

-- the front of the queue, if any, precedes this request
abbrev pub is_before : Option Request → Request → Bool
is_before None r = false
is_before (Some q) r = precedes q r

-- A new request while the vote is held: it waits. If it precedes the granted request and all
-- waiting ones, the holder is asked to give the vote back. Otherwise its client receives FAIL.
unfoldable pub join_queue : VoterState → Grant → ℕ → ℕ → Outcome
join_queue v g client stamp =
    join_queue_by (is_before (front v.waiting) (record { stamp = stamp; client = client }))
    (precedes (record { stamp = g.stamp; client = g.client }) (record { stamp = stamp; client = client }))
    v g client stamp

-- a new request, of a client that neither holds the vote nor waits, by who holds the vote
abbrev pub admit_by : Option Grant → VoterState → ℕ → ℕ → Outcome
admit_by None v client stamp = grant_front (queue v client stamp)
admit_by (Some g) v client stamp = join_queue v g client stamp

-- a new request: it gets the vote if the vote is free, and waits otherwise
unfoldable pub admit : VoterState → ℕ → ℕ → Outcome
admit v client stamp = admit_by v.held v client stamp

-- the reply to a repeated request: LOCKED again if its client holds the vote, FAIL again if it
-- waits
abbrev pub again_by : Bool → VoterState → Grant → ℕ → ℕ → List ToClient
again_by true v g client stamp = reply v client (to_client.Locked stamp g.grant) ∷ []
again_by false v g client stamp = reply v client (to_client.Fail stamp) ∷ []

-- the reply to a repeated request, by who holds the vote
abbrev pub again : VoterState → Option Grant → ℕ → ℕ → List ToClient
again v None client stamp = reply v client (to_client.Fail stamp) ∷ []
again v (Some g) client stamp = again_by (g.client == client) v g client stamp

-- A request of a client with a current request, by whether it is older than that, and whether it is
-- that one. A newer request finishes the older one first.
abbrev pub compare_by : Bool → Bool → VoterState → ℕ → ℕ → ℕ → Outcome
compare_by true same v client stamp s = no_reply v
compare_by false true v client stamp s = record { replies = again v v.held client stamp; state = v }
compare_by false false v client stamp s =
    and_then (take_release v client s) (admit (take_release v client s).state client stamp)

-- by the stamp of the client's current request, if there is one
unfoldable pub take_request_beside : VoterState → ℕ → ℕ → Option ℕ → Outcome
take_request_beside v client stamp None = admit v client stamp
take_request_beside v client stamp (Some s) = compare_by (nat_lt stamp s) (stamp == s) v client stamp s

-- by whether the request is finished
abbrev pub take_request_by : Bool → VoterState → ℕ → ℕ → Outcome
take_request_by true v client stamp = no_reply v
take_request_by false v client stamp = take_request_beside v client stamp (current_stamp v client)

-- REQUEST: one that is finished, or older than the client's current request, does nothing. The
-- current request gets its reply again. A new one is admitted.
unfoldable pub take_request : VoterState → ℕ → ℕ → Outcome
take_request v client stamp = take_request_by (nat_le stamp (slice_index v.finished client)) v client stamp

-- RELINQUISH

-- the grant is this client's, and has this number
abbrev pub is_grant : Option Grant → ℕ → ℕ → Bool
is_grant None client grant = false
is_grant (Some g) client grant = g.client == client && g.grant == grant

-- the granted request goes back into the queue, and the vote goes to the front of the queue
abbrev pub put_back : Option Grant → VoterState → Outcome
put_back None v = no_reply v
put_back (Some g) v = grant_front (queue (free_vote v) g.client g.stamp)

-- RELINQUISH of the current grant puts its request back into the queue; any other does nothing
abbrev pub take_relinquish_by : Bool → VoterState → Outcome
take_relinquish_by true v = put_back v.held v
take_relinquish_by false v = no_reply v

-- RELINQUISH: the holder gives the vote back and goes on waiting
unfoldable pub take_relinquish : VoterState → ℕ → ℕ → Outcome
take_relinquish v client grant = take_relinquish_by (is_grant v.held client grant) v

-- Any message

-- the voter has seen this stamp
abbrev pub see : VoterState → ℕ → VoterState
see v stamp = record v { seen = max v.seen stamp }

-- what a message does if enough grants are left
abbrev pub outcome_of : VoterState → ℕ → VoterBody → Outcome
outcome_of v client (asks.Request stamp) = take_request (see v stamp) client stamp
outcome_of v client (asks.Relinquish grant) = take_relinquish v client grant
outcome_of v client (asks.Release stamp) = take_release (see v stamp) client stamp

-- nothing if more grants would have been given than the limit
abbrev pub unless_spent : Bool → Outcome → Option Outcome
unless_spent true o = None
unless_spent false o = Some o

-- one step; none if it would give more grants than the limit
unfoldable pub step : VoterState → ToVoter → Option Outcome
step v m = unless_spent (nat_lt v.limit (outcome_of v m.client m.body).state.granted) (outcome_of v m.client m.body)

-- Reminders

-- INQUIRE again, if one is outstanding
abbrev pub inquiry_again : Bool → VoterState → Grant → List ToClient
inquiry_again true v g = reply v g.client (to_client.Inquire g.grant) ∷ []
inquiry_again false v g = []

-- LOCKED again for the holder, and INQUIRE again if one is outstanding
abbrev pub remind_of : Option Grant → VoterState → List ToClient
remind_of None v = []
remind_of (Some g) v = reply v g.client (to_client.Locked g.stamp g.grant) ∷ inquiry_again v.inquiring v g

-- what to send to the holder again, in case messages were lost
unfoldable pub remind : VoterState → List ToClient
remind v = remind_of v.held v

-- What a message would do

-- the grant with this number holds the vote
abbrev pub names_grant : Option Grant → ℕ → Bool
names_grant None grant = false
names_grant (Some g) grant = g.grant == grant

-- there was a grant, and it no longer holds the vote
abbrev pub is_ended : Option Grant → Option Grant → Bool
is_ended None after = false
is_ended (Some g) after = not (names_grant after g.grant)

-- whether the message is refused; if not, whether it ends the current grant
abbrev pub effect_by : VoterState → Option Outcome → Effect
effect_by v None = record { frees = false; refused = true }
effect_by v (Some o) = record { frees = is_ended v.held o.state.held; refused = false }

-- whether the step would end the current grant, and whether it would be refused
unfoldable pub effect_of : VoterState → ToVoter → Effect
effect_of v m = effect_by v (step v m)

-- The first state

-- a new voter, which has taken no message
abbrev pub start : ℕ → ℕ → VoterState
start id limit = record {
  id = id;
  limit = limit;
  held = None;
  inquiring = false;
  waiting = empty;
  finished = replicate max_clients 0;
  granted = 0;
  seen = 0;
}

-- How the code looks ahead

-- the stamp is above that of the current request, or there is no current request
abbrev pub is_later : Option ℕ → ℕ → Bool
is_later None stamp = true
is_later (Some s) stamp = nat_lt s stamp

-- the message needs a new grant
unfoldable pub needs_grant : VoterState → ℕ → VoterBody → Bool
needs_grant v client (asks.Request stamp) =
    nat_lt (slice_index v.finished client) stamp && is_later (current_stamp v client) stamp
    && (is_none v.held || is_some (held_stamp v.held client))
needs_grant v client (asks.Relinquish grant) = is_grant v.held client grant
needs_grant v client (asks.Release stamp) = is_up_to (held_stamp v.held client) stamp && is_some (front v.waiting)

-- the message needs a new grant, and none is left
abbrev pub is_refused : VoterState → ToVoter → Bool
is_refused v m = needs_grant v m.client m.body && nat_le v.limit v.granted

-- there is a stamp, and it is less than this one
abbrev pub is_older : Option ℕ → ℕ → Bool
is_older None stamp = false
is_older (Some s) stamp = nat_lt s stamp

-- the message ends the current grant
unfoldable pub ends_grant : VoterState → ℕ → VoterBody → Bool
ends_grant v client (asks.Request stamp) =
    nat_lt (slice_index v.finished client) stamp && is_older (held_stamp v.held client) stamp
ends_grant v client (asks.Relinquish grant) = is_grant v.held client grant
ends_grant v client (asks.Release stamp) = is_up_to (held_stamp v.held client) stamp

-- what holds of every voter
pub record IsSound (v : VoterState) : Type 0 where
  pub limit : v.limit ≤ max_limit
  pub granted : v.granted ≤ v.limit
  -- the number of the current grant is at most the number of grants given
  pub numbered : (g : Grant) → v.held ≡ Some g → g.grant ≤ v.granted
  -- a client that holds the vote does not wait
  pub apart : (g : Grant) → v.held ≡ Some g → get v.waiting g.client ≡ None
  -- while the vote is free, nobody waits
  pub free : v.held ≡ None → (client : ℕ) → get v.waiting client ≡ None
