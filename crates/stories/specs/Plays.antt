-- What the turns of a story do: what befalls the world in each turn, and what is said of it.
use Rattle.std.specs.Prelude.{ℕ, ◌+◌, ◌^◌, ◌-◌, nat_lt, min, Bool, true, false, ◌&&◌, List, [], ◌∷◌, length, replicate, slice_index, slice_index_or, slice_set, Option, Some, None, Result, Ok, Err}
use Rattle.numbers.specs.Bounds.{max_clients, max_voters}
use Rattle.dealer.specs.Plans.{PlanPair}
use Rattle.fence.specs.declared.fence.Fence.{Fence}
use Rattle.voter.specs.declared.state.Grant.{Grant}
use Rattle.requester.specs.Words.{is_inside}
use Rattle.world_state.specs.declared.fault.WorldFault.{WorldFault}
use Rattle.world_state.specs.declared.fault.WorldFault.TheVariants.{NoSuchClient, NoSuchVoter}
use Rattle.world_state.specs.declared.step.Step.{Step}
use Rattle.world_state.specs.declared.step.Step.TheVariants.{Deliver}
use Rattle.world.specs.Restarts.{Goes, Node, OneClient, OneVoter, Nobody, Restarts, Saved, crash_seen, maker, pass_of}
use Rattle.world_state.specs.Steps.{is_silent}
use Rattle.world.specs.SavedWorlds.{PlannedSaved, begin_by, live_step_of}
use Rattle.world_state.specs.Steps.{Outcome, WorldState, client_at, vote, voter_at}
use Rattle.world.specs.Incidents.{Incident, Happens, Hears, IsReborn, StartsAnew}
use Rattle.incidents.specs.Calls.{befalls_by, grant_at, letting_go}
use Rattle.stories.specs.declared.happening.Happening.{Happening}
use Rattle.stories.specs.declared.happening.Happening.TheVariants.{Refused, Done, Crashed, Evicted, NoGrant, Reborn, Anew, NoPass}
use Rattle.stories.specs.declared.story.Moment.{Moment}
use Rattle.stories.specs.declared.turn.Turn.{Turn}
use Rattle.stories.specs.declared.turn.Turn.TheVariants.{CrashClient, CrashVoter, Evict, RebornVoter, AnewClient, Show, Step as Makes}
use Rattle.stories.specs.Guards.{Guard, guard_after, guard_did}

-- the voter lets its grant go, if it has given one
abbrev pub eviction : Saved → ℕ → Option Grant → Option Incident
eviction s v None = None
eviction s v (Some g) = Some (Hears (letting_go s v g))

-- what befalls the world in a turn. A voter is reborn with the number of grants that it gave, a client
-- starts anew with its last stamp as its clock, and a show of a pass changes nothing in the world.
abbrev pub incident_of : Saved → Turn → Option Incident
incident_of s (Makes st) = Some (Happens (Goes st))
incident_of s (CrashClient c) = Some (Happens (Restarts (OneClient c)))
incident_of s (CrashVoter v) = Some (Happens (Restarts (OneVoter v)))
incident_of s (Evict v) = eviction s v (grant_at s v)
incident_of s (RebornVoter v) = Some (IsReborn v (voter_at s.live.voters v).granted)
incident_of s (AnewClient c) = Some (StartsAnew c (client_at s.live.clients c).stamp)
incident_of s (Show c) = None

-- the world after an incident, if there is one
abbrev pub befall : Option Incident → PlannedSaved → PlannedSaved
befall None w = w
befall (Some i) w = befalls_by w i

-- the world after a turn
abbrev pub turned : PlannedSaved → Turn → PlannedSaved
turned w t = befall (incident_of w.saved t) w

-- the new world of these plans
abbrev pub first_world : PlanPair → ℕ → ℕ → PlannedSaved
first_world plans clients limit = record { plans = plans; saved = begin_by plans clients limit }

-- the world after these turns
abbrev pub world_after : List Turn → PlannedSaved → PlannedSaved
world_after [] w = w
world_after (t ∷ ts) w = world_after ts (turned w t)

-- the turn is a step, a crash or a show
abbrev pub is_calm : Turn → Bool
is_calm (Makes st) = true
is_calm (CrashClient c) = true
is_calm (CrashVoter v) = true
is_calm (Evict v) = false
is_calm (RebornVoter v) = false
is_calm (AnewClient c) = false
is_calm (Show c) = true

-- What is said of a turn

-- a story so far
pub record Scene : Type 0 where
  pub world : PlannedSaved
  -- whether there were no turns but steps, crashes and shows
  pub calm : Bool
  -- how many messages each client and each voter took since its last save
  pub clients : List ℕ
  pub voters : List ℕ
  -- for each client the pass that it had when it was inside last, if it was
  pub passes : List (Option (List ℕ))
  pub guard : Guard

-- a guard as the code has it
abbrev pub guard_of : Fence → Guard
guard_of f = record { seen = f.seen; turn = f.turn }

-- the beginning of a story; there are at most 64 clients and 64 voters
abbrev pub first_scene : PlanPair → ℕ → ℕ → Scene
first_scene plans clients limit = record {
  world = first_world plans clients limit;
  calm = true;
  clients = replicate max_clients 0;
  voters = replicate max_voters 0;
  passes = replicate max_clients None;
  guard = record { seen = replicate max_voters 0; turn = 0 };
}

-- a client or a voter has another count
abbrev pub count : Node → (ℕ → ℕ) → Scene → Scene
count (OneClient c) f s = record s { clients = slice_set s.clients c (f (slice_index s.clients c)) }
count (OneVoter v) f s = record s { voters = slice_set s.voters v (f (slice_index s.voters v)) }
count Nobody f s = s

-- the count of whoever made a step, by whether it was silent: a save begins anew, and an arrival counts.
-- Counts end at 2^64 - 1.
abbrev pub count_on : Step → Bool → ℕ → ℕ
count_on st false n = 0
count_on (Deliver k) true n = min (n + 1) (2 ^ 64 - 1)
count_on st true n = n

-- the counts after a step; a refused one counts nothing
abbrev pub count_step : Step → Result Outcome WorldFault → Scene → Scene
count_step st (Ok o) s = count (maker s.world.saved.live st) (count_on st (is_silent o.sent o.seen)) s
count_step st (Err fault) s = s

-- a count after an eviction, by whether it was silent: a save begins anew
abbrev pub count_beside : Bool → ℕ → ℕ
count_beside false n = 0
count_beside true n = n

-- the counts after an eviction
abbrev pub count_eviction : ℕ → Result Outcome WorldFault → Scene → Scene
count_eviction v (Ok o) s = count (OneVoter v) (count_beside (is_silent o.sent o.seen)) s
count_eviction v (Err fault) s = s

-- the same, by the grant that is let go, if there is one
abbrev pub count_grant : ℕ → Option Grant → Scene → Scene
count_grant v None s = s
count_grant v (Some g) s = count_eviction v (vote s.world.saved.live (letting_go s.world.saved v g)) s

-- the pass of a client, if it was inside
abbrev pub pass_at : List (Option (List ℕ)) → ℕ → Option (List ℕ)
pass_at passes c = slice_index_or passes c None

-- the guard after a show, if there is such a client, and it has a pass
abbrev pub guard_shown : Bool → Option (List ℕ) → Scene → Scene
guard_shown true (Some pass) s = record s { guard = guard_after s.guard pass }
guard_shown true None s = s
guard_shown false pass s = s

-- the counts and the guard after a turn; a crash, a rebirth and a start anew begin a count anew
abbrev pub count_turn : Scene → Turn → Scene
count_turn s (Makes st) = count_step st (live_step_of s.world st) s
count_turn s (CrashClient c) = count (OneClient c) (λ n. 0) s
count_turn s (CrashVoter v) = count (OneVoter v) (λ n. 0) s
count_turn s (Evict v) = count_grant v (grant_at s.world.saved v) s
count_turn s (RebornVoter v) = count (OneVoter v) (λ n. 0) s
count_turn s (AnewClient c) = count (OneClient c) (λ n. 0) s
count_turn s (Show c) = guard_shown (nat_lt c (length s.world.saved.live.clients)) (pass_at s.passes c) s

-- the client's pass is noted, by whether it is inside
abbrev pub note_if : Bool → ℕ → Scene → Scene
note_if true c s = record s { passes = slice_set s.passes c (Some (pass_of s.world.saved c)) }
note_if false c s = s

-- the pass of a client that is inside is noted
abbrev pub note : Node → Scene → Scene
note (OneClient c) s = note_if (is_inside (client_at s.world.saved.live.clients c).phase) c s
note (OneVoter v) s = s
note Nobody s = s

-- whose pass is noted after a turn
abbrev pub noted : Scene → Turn → Node
noted s (Makes st) = maker s.world.saved.live st
noted s (CrashClient c) = OneClient c
noted s (CrashVoter v) = Nobody
noted s (Evict v) = Nobody
noted s (RebornVoter v) = Nobody
noted s (AnewClient c) = Nobody
noted s (Show c) = Nobody

-- the story after a turn
abbrev pub play : Scene → Turn → Scene
play s t = note (noted s t) (record (count_turn s t) { world = turned s.world t; calm = is_calm t && s.calm })

-- what a step did: its messages are numbered from those sent before, or its fault
abbrev pub step_did : WorldState → Result Outcome WorldFault → Happening
step_did w (Ok o) = Done (length w.sent) o.sent o.seen
step_did w (Err fault) = Refused fault

-- what a crash did: how many messages were forgotten, or that nobody has this number
abbrev pub crash_did : Bool → ℕ → WorldFault → Happening
crash_did true forgotten fault = Crashed forgotten
crash_did false forgotten fault = Refused fault

-- what an eviction of this grant did: whom the voter told of a new one, or its fault
abbrev pub let_go_did : Grant → WorldState → Result Outcome WorldFault → Happening
let_go_did g w (Ok o) = Evicted g (length w.sent) o.sent
let_go_did g w (Err fault) = Refused fault

-- what an eviction did, by whether there is such a voter, and its grant
abbrev pub evict_did : Bool → Option Grant → Saved → ℕ → Happening
evict_did false g s v = Refused (NoSuchVoter v)
evict_did true None s v = NoGrant v
evict_did true (Some g) s v = let_go_did g s.live (vote s.live (letting_go s v g))

-- what a rebirth did, by whether there is such a voter
abbrev pub rebirth_did : Bool → ℕ → ℕ → Happening
rebirth_did true granted v = Reborn granted
rebirth_did false granted v = Refused (NoSuchVoter v)

-- what a start anew did, by whether there is such a client
abbrev pub anew_did : Bool → Saved → ℕ → Happening
anew_did true s c = Anew (client_at s.live.clients c).stamp (crash_seen (is_inside (client_at s.live.clients c).phase) false)
anew_did false s c = Refused (NoSuchClient c)

-- what a show did, by whether there is such a client, and its pass
abbrev pub show_did : Bool → Option (List ℕ) → Guard → ℕ → Happening
show_did true (Some pass) g c = guard_did g pass
show_did true None g c = NoPass c
show_did false pass g c = Refused (NoSuchClient c)

-- what a turn did
abbrev pub turn_did : Scene → Turn → Happening
turn_did s (Makes st) = step_did s.world.saved.live (live_step_of s.world st)
turn_did s (CrashClient c) = crash_did (nat_lt c (length s.world.saved.live.clients)) (slice_index s.clients c) (NoSuchClient c)
turn_did s (CrashVoter v) = crash_did (nat_lt v (length s.world.saved.live.voters)) (slice_index s.voters v) (NoSuchVoter v)
turn_did s (Evict v) = evict_did (nat_lt v (length s.world.saved.live.voters)) (grant_at s.world.saved v) s.world.saved v
turn_did s (RebornVoter v) = rebirth_did (nat_lt v (length s.world.saved.live.voters)) (voter_at s.world.saved.live.voters v).granted v
turn_did s (AnewClient c) = anew_did (nat_lt c (length s.world.saved.live.clients)) s.world.saved c
turn_did s (Show c) = show_did (nat_lt c (length s.world.saved.live.clients)) (pass_at s.passes c) s.guard c

-- each turn with what it did, in order
abbrev pub moments_of : List Turn → Scene → List Moment
moments_of [] s = []
moments_of (t ∷ ts) s = record { turn = t; happening = turn_did s t } ∷ moments_of ts (play s t)
