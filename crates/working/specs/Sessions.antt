-- A session: a process that takes locks. What it knows of its votes of one lock, and when it works.
use Rattle.std.specs.Prelude.{ℕ, ◌+◌, ◌==◌, nat_lt, Bool, ◌&&◌, ◌||◌, not, List, [], ◌∷◌, Option, Some, None, if◌then◌else◌}
use Rattle.std.specs.List.{list_all, list_any}
use Rattle.lease_clock.specs.Leases.{is_among}
use Rattle.working.specs.Voters.{Acknowledgement, Locked, set}

pub record Session : Type 0 where
  -- the time by its clock, and when its heartbeats left
  pub time : ℕ
  pub beats : List ℕ
  -- the LOCKEDs and the acknowledgements that it took from each voter
  pub votes : ℕ → List Locked
  pub leases : ℕ → List Acknowledgement
  -- the requests that it ended, and the numbers of the grants that it gave back to each voter
  pub ended : List ℕ
  pub returned : ℕ → List ℕ

-- it begins
abbrev pub begun_session : ℕ → Session
begun_session time =
    record { time = time; beats = []; votes = λ voter. []; leases = λ voter. []; ended = []; returned = λ voter. [] }

-- ---- what it does

-- its clock goes on
abbrev pub session_later : Session → ℕ → Session
session_later s span = record s { time = s.time + span }

-- a heartbeat leaves
abbrev pub beaten : Session → Session
beaten s = record s { beats = s.time ∷ s.beats }

-- it takes an acknowledgement that reaches it from a voter, if it is for the session
abbrev pub renews : ℕ → Session → ℕ → Option Acknowledgement → Session
renews session s voter None = s
renews session s voter (Some a) = if a.session == session then record s { leases = set s.leases voter (a ∷ s.leases voter) } else s

-- it ends a request: it stopped working under it, or never worked
abbrev pub has_ended : Session → ℕ → Session
has_ended s request = record s { ended = request ∷ s.ended }

-- it gives a vote of a voter back: it works no more with the grant of this number
abbrev pub has_returned : Session → ℕ → ℕ → Session
has_returned s voter number = record s { returned = set s.returned voter (number ∷ s.returned voter) }

-- ---- when it works

-- a heartbeat that was acknowledged with these lapses left less than a span ago
abbrev pub is_lasting : ℕ → ℕ → ℕ → Acknowledgement → Bool
is_lasting span now lapses a = (a.lapses == lapses) && nat_lt now (a.beat + span)

-- A vote counts for a request if it is for it, was not given back, and has a lease: a heartbeat left less than a span ago that
-- its voter acknowledged with the same lapses.
abbrev pub counts : ℕ → Session → ℕ → ℕ → Locked → Bool
counts span s request voter vote =
    (vote.grant.request == request) && (not (is_among vote.grant.number (s.returned voter)) && list_any (is_lasting span s.time vote.lapses) (s.leases voter))

-- it has the vote of this voter for the request
abbrev pub has_vote : ℕ → Session → ℕ → ℕ → Bool
has_vote span s request voter = list_any (counts span s request voter) (s.votes voter)

-- It works under a request that it did not end, with the votes of these voters. A heartbeat counts for `lease` after it left,
-- and the session takes at most `stop` to stop after that.
abbrev pub is_working : ℕ → ℕ → Session → ℕ → List ℕ → Bool
is_working lease stop s request quorum = not (is_among request s.ended) && list_all (has_vote (lease + stop) s request) quorum

-- ---- what reaches it from voters

-- It takes a LOCKED that reaches it from a voter, if it is for the session. One that renews a vote it takes only if it has that
-- vote still.
abbrev pub takes : ℕ → ℕ → Session → ℕ → Option Locked → Session
takes span session s voter None = s
takes span session s voter (Some locked) =
    if (locked.grant.session == session) && (not locked.renews || has_vote span s locked.grant.request voter)
    then record s { votes = set s.votes voter (locked ∷ s.votes voter) } else s
