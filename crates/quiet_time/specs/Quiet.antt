-- The quiet time of a lock at a voter, after a start that may have lost what the voter knew. Only who says that he is inside gets the
-- vote, as with the grace period of other lock servers (NFS version 4, RFC 7530, section 9.6.2).
use Rattle.std.specs.Prelude.{ℕ, ◌≡◌, ◌==◌, nat_le, nat_lt, Bool, true, false, ◌&&◌, ◌||◌, not, Option, Some, None, if◌then◌else◌, slice_index, slice_set, replicate}
use Rattle.std.specs.List.{list_any, range_with_len}
use Rattle.std.specs.FinMap.{get}
use Rattle.message.specs.declared.message.ToVoter.{ToVoter}
use Rattle.message.specs.declared.message.VoterBody.{VoterBody}
use Rattle.message.specs.declared.message.VoterBody.TheVariants as asks
use Rattle.numbers.specs.Bounds.{max_clients}
use Rattle.quiet_time.specs.declared.hearing.Hearing.{Hearing}
use Rattle.quiet_time.specs.declared.hearing.Hearing.TheVariants.{PutOff, Taken}
use Rattle.quiet_time.specs.declared.since_start.SinceStart.{SinceStart}
use Rattle.voter.specs.declared.state.Grant.{Grant}
use Rattle.voter.specs.declared.state.VoterState.{VoterState}
use Rattle.voter.specs.Leases.{evict}
use Rattle.voter.specs.Steps.{Outcome, current_stamp, is_grant, no_reply, step}

-- nothing was said since a start, before which so many grants were given
abbrev pub since_start : ℕ → SinceStart
since_start begun = record { begun = begun; inside = replicate max_clients 0 }

-- the client said since the start that it is inside by the request of this stamp
abbrev pub is_said : SinceStart → ℕ → ℕ → Bool
is_said s client stamp = nat_lt 0 stamp && (slice_index s.inside client == stamp)

-- the vote has a grant from before the start, and its client did not say since that it is inside by it
abbrev pub is_old : SinceStart → Option Grant → Bool
is_old s None = false
is_old s (Some g) = nat_le g.grant s.begun && not (is_said s g.client g.stamp)

-- the client waits, and said that it is inside: by the stamp under which it waits
abbrev pub waits_inside : SinceStart → ℕ → Option ℕ → Bool
waits_inside s client None = false
waits_inside s client (Some stamp) = is_said s client stamp

-- somebody waits who said that he is inside
unfoldable pub is_awaited : SinceStart → VoterState → Bool
is_awaited s v = list_any (λ client. waits_inside s client (get v.waiting client)) (range_with_len 0 max_clients)

-- Only who says that he is inside gets the vote: in the quiet time, and as long as somebody waits who said so in it.
abbrev pub is_closed : Bool → SinceStart → VoterState → Bool
is_closed quiet s v = quiet || is_awaited s v

-- a REQUEST is put off while only who is inside gets the vote, if its client does not say that it is inside
abbrev pub puts_off : Bool → Bool → VoterBody → Bool
puts_off closed says_inside (asks.Request stamp) = closed && not says_inside
puts_off closed says_inside (asks.Relinquish grant) = false
puts_off closed says_inside (asks.Release stamp) = false

-- A grant from before the start may be somebody else's by now. So a client that gives it back does not wait on behind it: its
-- request is over, as if it was let go.
abbrev pub step_of_old : VoterState → ToVoter → VoterBody → Option Outcome
step_of_old v m (asks.Request stamp) = step v m
step_of_old v m (asks.Relinquish grant) = if is_grant v.held m.client grant then evict v grant else Some (no_reply v)
step_of_old v m (asks.Release stamp) = step v m

-- what a message does that is not put off, by whether the voter is quiet and has a grant from before the start
abbrev pub quiet_step : Bool → VoterState → ToVoter → Option Outcome
quiet_step false v m = step v m
quiet_step true v m = step_of_old v m m.body

-- what is so of a message: it was put off, and nothing changed; or it was not, and was taken
abbrev pub Became : Hearing → Bool → Type 0 → Type 0 → Type 0
Became PutOff is_put_off unchanged taken = (is_put_off ≡ true) × unchanged
Became Taken is_put_off unchanged taken = (is_put_off ≡ false) × taken

-- the stamp is there, and is this one
abbrev pub is_stamp : Option ℕ → ℕ → Bool
is_stamp None stamp = false
is_stamp (Some s) stamp = s == stamp

-- What is known to be said, once the voter is as it is now: the client has the vote or waits by its REQUEST, in which it said that it
-- is inside.
abbrev pub noted : Bool → Bool → SinceStart → VoterState → ℕ → VoterBody → SinceStart
noted closed says_inside s v client (asks.Request stamp) =
    if closed && (says_inside && is_stamp (current_stamp v client) stamp)
    then record s { inside = slice_set s.inside client stamp } else s
noted closed says_inside s v client (asks.Relinquish grant) = s
noted closed says_inside s v client (asks.Release stamp) = s

-- nothing is known to be said by a client: its session is over
abbrev pub forgotten : SinceStart → ℕ → SinceStart
forgotten s client = record s { inside = slice_set s.inside client 0 }

-- At the end of the quiet time each grant from before the start is let go of which nobody said that he is inside by it. None if the vote
-- would go on and no grant is left.
abbrev pub end_of : SinceStart → VoterState → Option Grant → Option Outcome
end_of s v None = Some (no_reply v)
end_of s v (Some g) = if is_old s (Some g) then evict v g.grant else Some (no_reply v)
