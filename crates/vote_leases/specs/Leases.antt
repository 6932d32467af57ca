-- What a session keeps of its votes: of each voter a lease, and of each lock and voter the vote (Gray and Cheriton, "Leases:
-- An Efficient Fault-Tolerant Mechanism for Distributed File Cache Consistency", SOSP 1989). Times are those of the session's
-- clock.
use Rattle.std.specs.Prelude.{ℕ, ◌+◌, ◌==◌, nat_lt, max, min, Bool, true, false, ◌&&◌, ◌||◌, not, Option, Some, None, if◌then◌else◌}
use Rattle.lease_clock.specs.Leases.{lasts, newer}
use Rattle.vote_leases.specs.declared.incarnation.Incarnation.{Incarnation}
use Rattle.vote_leases.specs.declared.lease.VoterLease.{VoterLease}
use Rattle.vote_leases.specs.declared.vote.Taken.{Taken}
use Rattle.vote_leases.specs.declared.vote.Locked.{Locked}
use Rattle.vote_leases.specs.declared.vote.Vote.{Vote}

-- ---- incarnations

-- two incarnations are the same one
abbrev pub is_same : Incarnation → Incarnation → Bool
is_same a b = (a.run == b.run) && ((a.start == b.start) && (a.lapses == b.lapses))

-- The second is later: of a later run, or of a later start in the same run, or of more lapses since that.
abbrev pub is_later : Incarnation → Incarnation → Bool
is_later a b = nat_lt a.run b.run || ((a.run == b.run) && (nat_lt a.start b.start || ((a.start == b.start) && nat_lt a.lapses b.lapses)))

-- ---- the lease of a voter

-- the newer one of two times, if there is any
abbrev pub newest : Option ℕ → Option ℕ → Option ℕ
newest time None = time
newest time (Some other) = newer time other

-- nothing was heard of the voter
abbrev pub begun_lease : VoterLease
begun_lease = record { incarnation = record { run = 0; start = 0; lapses = 0 }; beat = None }

-- a message says this incarnation: a later one has acknowledged nothing yet
abbrev pub heard : VoterLease → Incarnation → VoterLease
heard l incarnation = if is_later l.incarnation incarnation then record { incarnation = incarnation; beat = None } else l

-- this incarnation acknowledges a heartbeat that left at this time
abbrev pub renewed : VoterLease → Incarnation → ℕ → VoterLease
renewed l incarnation beat = if is_same incarnation l.incarnation then record { incarnation = l.incarnation; beat = newer l.beat beat } else l

-- ---- the vote of a voter for the requests of a lock

-- the session did not ask for it yet, and used no stamp above this one
abbrev pub begun_vote : ℕ → Vote
begun_vote used = record { request = used; is_open = false; returned = 0; taken = None }

-- a request asks, if its stamp is above those before
abbrev pub asked : Vote → ℕ → Vote
asked v request = if nat_lt v.request request then record { request = request; is_open = true; returned = v.returned; taken = None } else v

-- When the newest heartbeat left for which the vote counts: one that the incarnation acknowledged from which it was taken.
abbrev pub beat_of : Option Taken → VoterLease → Option ℕ
beat_of None l = None
beat_of (Some t) l = if is_same t.incarnation l.incarnation then newest t.beat l.beat else t.beat

-- the vote counts at this time, where a heartbeat counts for this span after it left
abbrev pub counts : Vote → VoterLease → ℕ → ℕ → Bool
counts v l span now = lasts (beat_of v.taken l) span now

-- the same vote, which keeps that heartbeat
abbrev pub keeping : Option Taken → VoterLease → Option Taken
keeping None l = None
keeping (Some t) l = Some (record { incarnation = t.incarnation; beat = beat_of (Some t) l })

abbrev pub kept : Vote → VoterLease → Vote
kept v l = record { request = v.request; is_open = v.is_open; returned = v.returned; taken = keeping v.taken l }

-- A LOCKED gives the session the vote: it is for the request that goes on, has a number above all that were given back, and,
-- if it only renews a vote, the vote counts still.
abbrev pub is_taken : Vote → VoterLease → Locked → ℕ → ℕ → Bool
is_taken v l locked span now =
    v.is_open && ((v.request == locked.request) && (nat_lt v.returned locked.number && (not locked.renews || counts v l span now)))

abbrev pub taken : Vote → VoterLease → Locked → ℕ → ℕ → Vote
taken v l locked span now =
    if is_taken v l locked span now
    then record { request = v.request; is_open = v.is_open; returned = v.returned; taken = Some (record { incarnation = locked.incarnation; beat = beat_of v.taken l }) }
    else v

-- the session gives the vote back, whose grant has this number
abbrev pub given_back : Vote → ℕ → Vote
given_back v number = record { request = v.request; is_open = v.is_open; returned = max v.returned number; taken = None }

-- the request of this stamp ends, if it is the newest
abbrev pub ended : Vote → ℕ → Vote
ended v request = if nat_lt request v.request then v else record { request = request; is_open = false; returned = v.returned; taken = None }

-- Up to when a vote counts by a heartbeat that left at this time. The greatest number of 64 bits stands for later times.
abbrev pub end_of : Option ℕ → ℕ → Option ℕ
end_of None span = None
end_of (Some beat) span = Some (min (beat + span) 18446744073709551615)

abbrev pub until : Vote → VoterLease → ℕ → Option ℕ
until v l span = end_of (beat_of v.taken l) span
