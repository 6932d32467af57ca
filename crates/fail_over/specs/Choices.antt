-- Which quorum a session asks, and when it gives up a request that waits. A set of voters is a word: voter v is in it if bit v is 1. A cycle
-- is a list of quorums, each of them such a word. Ticket t has the quorum at t modulo the cycle's length.
use Rattle.std.specs.Prelude.{bit_or, ℕ, zero, suc, ◌+◌, ◌-◌, ◌%◌, nat_lt, Bool, not, ◌&&◌, ◌||◌, List, length, slice_index, Option, Some, None, if◌then◌else◌}
use Rattle.std.specs.List.{list_any}
use Rattle.std.specs.Option.{option_map, option_or}
use Rattle.numbers.specs.Sets.{has, meet, members_of, set_where}
use Rattle.fail_over.specs.declared.waiting.Waiting.{Waiting}

-- ---- voters

-- This voter was heard last longer ago than `most`. One of which there is no time is not silent.
abbrev pub is_silent : List ℕ → ℕ → ℕ → ℕ → Bool
is_silent heard now most voter = nat_lt voter (length heard) && nat_lt most (now - slice_index heard voter)

-- the voters that are silent
abbrev pub silent_voters : List ℕ → ℕ → ℕ → List ℕ
silent_voters heard now most = set_where (is_silent heard now most)

-- this voter's quiet time ends later, by the list of when each one's ends
abbrev pub is_quiet : List ℕ → ℕ → ℕ → Bool
is_quiet ends now voter = nat_lt voter (length ends) && nat_lt now (slice_index ends voter)

-- A session avoids a voter that is silent, and one in its quiet time, which gives no vote to a new request. It asks such a voter only if
-- there is nobody else to ask.
abbrev pub is_avoided : List ℕ → List ℕ → ℕ → ℕ → ℕ → Bool
is_avoided heard ends now most voter = is_silent heard now most voter || is_quiet ends now voter

abbrev pub avoided_voters : List ℕ → List ℕ → ℕ → ℕ → List ℕ
avoided_voters heard ends now most = set_where (is_avoided heard ends now most)

-- the voters of both sets together
abbrev pub either : ℕ → ℕ → ℕ
either first second = bit_or first second

-- the quorum has none of these voters
abbrev pub spares : ℕ → ℕ → Bool
spares voters quorum = not (meet (members_of quorum) (members_of voters))

-- ---- tickets

abbrev pub place_of : List ℕ → ℕ → ℕ
place_of cycle ticket = ticket % length cycle

abbrev pub quorum_of : List ℕ → ℕ → ℕ
quorum_of cycle ticket = slice_index cycle (place_of cycle ticket)

-- the first ticket whose quorum has none of these voters, among n tickets from this one on
abbrev pub first_ticket : List ℕ → ℕ → ℕ → ℕ → Option ℕ
first_ticket cycle voters ticket zero = None
first_ticket cycle voters ticket (suc n) =
    if spares voters (quorum_of cycle ticket) then Some ticket else first_ticket cycle voters (ticket + 1) n

-- the place of that ticket, once around the cycle
abbrev pub place_without : List ℕ → ℕ → ℕ → Option ℕ
place_without cycle voters ticket = option_map (place_of cycle) (first_ticket cycle voters ticket (length cycle))

-- The place of the quorum that a session asks. A voter that is avoided may give its vote later, and one that has no room gives none. So if
-- each quorum has a voter of either kind, the session asks the first one in which all have room.
abbrev pub next_quorum : List ℕ → ℕ → ℕ → ℕ → Option ℕ
next_quorum cycle ticket avoided full = option_or (place_without cycle (either avoided full) ticket) (place_without cycle full ticket)

-- ---- requests that wait

-- the voters of the quorum whose votes the request does not have
abbrev pub awaited : Waiting → List ℕ
awaited w = set_where (λ v. has (members_of w.quorum) v && not (has (members_of w.votes) v))

-- some quorum has no voter that is avoided, and none that has no room
abbrev pub others_would_do : List ℕ → ℕ → ℕ → Bool
others_would_do quorums avoided full = list_any (spares (either avoided full)) quorums

-- The request waits for a voter that is avoided, and others would do.
abbrev pub waits_for : List ℕ → Waiting → ℕ → ℕ → Bool
waits_for quorums w avoided full = meet (awaited w) (members_of avoided) && others_would_do quorums avoided full

-- So it has for longer than `most`.
abbrev pub is_stuck : List ℕ → Waiting → ℕ → ℕ → ℕ → ℕ → Bool
is_stuck quorums w avoided full now most = nat_lt most (now - w.asked) && waits_for quorums w avoided full
