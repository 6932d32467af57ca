-- A session of `working` that does what these leases and votes say: it keeps one lease and one vote of each voter, in place of all
-- that reached it.
use Rattle.std.specs.Prelude.{ℕ, ◌≡◌, ◌<◌, ◌+◌, ◌==◌, true, List, [], ◌∷◌, Option, Some, None, if◌then◌else◌}
use Rattle.std.specs.List.{AllByRecursion, slice_get}
use Rattle.working.specs.Events.{Ends, Event, GivesBack, IsOneOf, Renews, Takes, World, after}
use Rattle.working.specs.Voters.{Acknowledgement, Locked as Message, set}
use Rattle.vote_leases.specs.Leases.{asked, begun_lease, begun_vote, ended, given_back, heard, kept, renewed, taken, until}
use Rattle.vote_leases.specs.declared.incarnation.Incarnation.{Incarnation}
use Rattle.vote_leases.specs.declared.lease.VoterLease.{VoterLease}
use Rattle.vote_leases.specs.declared.vote.Locked.{Locked}
use Rattle.vote_leases.specs.declared.vote.Vote.{Vote}

-- what a session keeps of each voter, by its number
pub record Kept : Type 0 where
  pub leases : ℕ → VoterLease
  pub votes : ℕ → Vote

-- a session begins, and used no stamp above this one
abbrev pub begun : ℕ → Kept
begun used = record { leases = λ voter. begun_lease; votes = λ voter. begun_vote used }

-- ---- steps

-- What may happen, to any session.
pub data Step : Type 0 where
  -- An event of all voters and sessions. If it is a voter's message that reaches a session, its header says this incarnation.
  Happens : Event → Incarnation → Step
  -- a session asks with a request: session, request
  Asks : ℕ → ℕ → Step
  -- A session hears which incarnation a message of a voter says, of any kind: session, voter, incarnation
  Learns : ℕ → ℕ → Incarnation → Step
  -- a session keeps what counts for a vote: session, voter
  Holds : ℕ → ℕ → Step

-- the events of these steps
abbrev pub events_of : List Step → List Event
events_of [] = []
events_of (Happens e i ∷ steps) = e ∷ events_of steps
events_of (Asks session request ∷ steps) = events_of steps
events_of (Learns session voter i ∷ steps) = events_of steps
events_of (Holds session voter ∷ steps) = events_of steps

-- the world after a step
abbrev pub world_after : ℕ → ℕ → World → Step → World
world_after ttl span w (Happens e i) = after ttl span w e
world_after ttl span w (Asks session request) = w
world_after ttl span w (Learns session voter i) = w
world_after ttl span w (Holds session voter) = w

-- ---- what each step does to what a session keeps

abbrev pub with_lease : Kept → ℕ → VoterLease → Kept
with_lease k voter l = record { leases = set k.leases voter l; votes = k.votes }

abbrev pub with_vote : Kept → ℕ → Vote → Kept
with_vote k voter v = record { leases = k.leases; votes = set k.votes voter v }

-- an acknowledgement reaches the session, if it is for it
abbrev pub acknowledged_to : ℕ → Kept → ℕ → Incarnation → Option Acknowledgement → Kept
acknowledged_to me k voter i None = k
acknowledged_to me k voter i (Some a) = if a.session == me then with_lease k voter (renewed (k.leases voter) i a.beat) else k

-- the LOCKED with this header
abbrev pub locked_of : Incarnation → Message → Locked
locked_of i m = record { incarnation = i; request = m.grant.request; number = m.grant.number; renews = m.renews }

-- a LOCKED reaches the session at this time, if it is for it
abbrev pub locked_to : ℕ → ℕ → ℕ → Kept → ℕ → Incarnation → Option Message → Kept
locked_to lease now me k voter i None = k
locked_to lease now me k voter i (Some m) =
    if m.grant.session == me then with_vote k voter (taken (k.votes voter) (k.leases voter) (locked_of i m) lease now) else k

-- What an event does to what the session keeps, where a heartbeat counts for `lease`.
abbrev pub kept_after : ℕ → ℕ → World → Kept → Event → Incarnation → Kept
kept_after lease me w k (Renews session voter place) i =
    if session == me then acknowledged_to me k voter i (slice_get (w.voters voter).acknowledged place) else k
kept_after lease me w k (Takes session voter place) i =
    if session == me then locked_to lease (w.sessions me).time me k voter i (slice_get (w.voters voter).told place) else k
kept_after lease me w k (Ends session request) i =
    if session == me then record { leases = k.leases; votes = λ voter. ended (k.votes voter) request } else k
kept_after lease me w k (GivesBack session voter number) i =
    if session == me then with_vote k voter (given_back (k.votes voter) number) else k
kept_after lease me w k e i = k

abbrev pub stepped : ℕ → ℕ → World → Kept → Step → Kept
stepped lease me w k (Happens e i) = kept_after lease me w k e i
stepped lease me w k (Asks session request) =
    if session == me then record { leases = k.leases; votes = λ voter. asked (k.votes voter) request } else k
stepped lease me w k (Learns session voter i) = if session == me then with_lease k voter (heard (k.leases voter) i) else k
stepped lease me w k (Holds session voter) =
    if session == me then with_vote k voter (kept (k.votes voter) (k.leases voter)) else k

-- the world after these steps, in order
abbrev pub world_after_all : ℕ → ℕ → World → List Step → World
world_after_all ttl span w [] = w
world_after_all ttl span w (s ∷ steps) = world_after_all ttl span (world_after ttl span w s) steps

-- what the session keeps after these steps, in order
abbrev pub all_stepped : ℕ → ℕ → ℕ → ℕ → World → Kept → List Step → Kept
all_stepped ttl lease span me w k [] = k
all_stepped ttl lease span me w k (s ∷ steps) = all_stepped ttl lease span me (world_after ttl span w s) (stepped lease me w k s) steps

-- ---- incarnations tell the lapses

-- A message to a session, whose header says this incarnation, has these lapses: by session, voter and incarnation.
abbrev pub IsTold : (ℕ → ℕ → Incarnation → ℕ) → World → Event → Incarnation → Type 0
IsTold lapses w (Renews session voter place) i =
    (a : Acknowledgement) → slice_get (w.voters voter).acknowledged place ≡ Some a → a.session ≡ session → lapses session voter i ≡ a.lapses
IsTold lapses w (Takes session voter place) i =
    (m : Message) → slice_get (w.voters voter).told place ≡ Some m → m.grant.session ≡ session → lapses session voter i ≡ m.lapses
IsTold lapses w e i = Unit {0}

abbrev pub IsToldAt : (ℕ → ℕ → Incarnation → ℕ) → World → Step → Type 0
IsToldAt lapses w (Happens e i) = IsTold lapses w e i
IsToldAt lapses w (Asks session request) = Unit {0}
IsToldAt lapses w (Learns session voter i) = Unit {0}
IsToldAt lapses w (Holds session voter) = Unit {0}

-- whatever a voter says to a session under one incarnation, it says the same lapses
abbrev pub AreTold : (ℕ → ℕ → Incarnation → ℕ) → ℕ → ℕ → World → List Step → Type 0
AreTold lapses ttl span w [] = Unit {0}
AreTold lapses ttl span w (s ∷ steps) = IsToldAt lapses w s × AreTold lapses ttl span (world_after ttl span w s) steps

-- ---- who is told to work

-- By what the session keeps, this voter's vote for the request counts up to a time, and that was no longer ago than `stop`.
abbrev pub HasUntil : ℕ → ℕ → ℕ → Kept → ℕ → ℕ → Type 0
HasUntil lease stop now k request voter =
    ((k.votes voter).is_open ≡ true) × ((k.votes voter).request ≡ request)
    × (end : ℕ) × (until (k.votes voter) (k.leases voter) lease ≡ Some end) × (now < end + stop)

-- the votes of one of these quorums count so
pub record IsToldToWork (lease stop now : ℕ) (quorums : List (List ℕ)) (k : Kept) (request : ℕ) : Type 0 where
  pub quorum : List ℕ
  pub is_quorum : IsOneOf quorum quorums
  pub counts : AllByRecursion (HasUntil lease stop now k request) quorum
