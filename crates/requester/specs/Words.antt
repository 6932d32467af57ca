-- What a client knows of its request, of each voter's vote, and of each voter.
use Rattle.std.specs.Prelude.{ℕ, nat_lt, nat_le, ◌==◌, Bool, true, false, ◌&&◌, ◌||◌, not, List, Option, Some, None, slice_index}
use Rattle.std.specs.List.{list_all, list_any}
use Rattle.numbers.specs.Sets.{has, set_where}
use Rattle.requester.specs.declared.state.Phase.{Phase}
use Rattle.requester.specs.declared.state.Phase.TheVariants.{Idle, Asking, Inside}
use Rattle.requester.specs.declared.state.ClientState.{ClientState}

-- The request

-- no request runs
abbrev pub is_idle : Phase → Bool
is_idle Idle = true
is_idle Asking = false
is_idle Inside = false

-- a request runs, and not all members have voted
abbrev pub is_asking : Phase → Bool
is_asking Idle = false
is_asking Asking = true
is_asking Inside = false

-- all members have voted: the client has the lock
abbrev pub is_inside : Phase → Bool
is_inside Idle = false
is_inside Asking = false
is_inside Inside = true

-- the members of the quorum of the current or last request, in ascending order
abbrev pub members : ClientState → List ℕ
members x = x.quorum.items

-- whether a voter is in the quorum that is asked
abbrev pub is_member : ClientState → ℕ → Bool
is_member x voter = has (members x) voter

-- a request runs, and this is its stamp
abbrev pub is_current : ClientState → ℕ → Bool
is_current x stamp = not (is_idle x.phase) && stamp == x.stamp

-- no stamp is left
abbrev pub is_spent : ClientState → Bool
is_spent x = nat_le x.limit x.clock

-- Votes: a map from voter to the number of the grant under which its vote is held. Grants count
-- from 1. The state has 0 for a vote that is not held.

-- the grant under which the vote of this voter is held, or 0
abbrev pub held_of : ClientState → ℕ → ℕ
held_of x voter = slice_index x.held voter

-- whether the vote of this voter is held
abbrev pub holds : ClientState → ℕ → Bool
holds x voter = nat_lt 0 (held_of x voter)

-- whether the vote is held under this grant
abbrev pub holds_under : ClientState → ℕ → ℕ → Bool
holds_under x voter grant = holds x voter && held_of x voter == grant

-- the grant if the condition holds, else none
abbrev pub grant_if : Bool → ℕ → Option ℕ
grant_if false grant = None
grant_if true grant = Some grant

-- the grant under which the vote is held, if it is
abbrev pub grant_of : ClientState → ℕ → Option ℕ
grant_of x voter = grant_if (holds x voter) (held_of x voter)

-- whether the vote of each member is held
abbrev pub is_covered : ClientState → Bool
is_covered x = list_all (holds x) (members x)

-- the last grant of the voter that was given back, or 0
abbrev pub last_of : ClientState → ℕ → ℕ
last_of x voter = slice_index x.last voter

-- Voters: three sets, each the list of its members in ascending order

-- the set with this voter added
abbrev pub with_voter : List ℕ → ℕ → List ℕ
with_voter s voter = set_where (λ v. (v == voter) || has s v)

-- the set without this voter
abbrev pub without_voter : List ℕ → ℕ → List ℕ
without_voter s voter = set_where (λ v. not (v == voter) && has s v)

-- whether the voter said that another request precedes this one
abbrev pub is_failed : ClientState → ℕ → Bool
is_failed x voter = has x.failed voter

-- whether the voter's vote was given back
abbrev pub is_relinquished : ClientState → ℕ → Bool
is_relinquished x voter = has x.relinquished voter

-- whether the voter asked for its vote back
abbrev pub is_inquired : ClientState → ℕ → Bool
is_inquired x voter = has x.inquired voter

-- whether a member failed or has its vote back, so that the request can't win yet
abbrev pub is_hindered : ClientState → Bool
is_hindered x = list_any (λ v. is_failed x v || is_relinquished x v) (members x)
