-- Services: nodes for the voters, side by side with clients.
use Rattle.std.specs.Prelude.{ℕ, ◌≡◌, ◌<◌, List, [], ◌∷◌, ◌++◌, length}
use Rattle.std.specs.List.{AllByRecursion}
use Rattle.voter.specs.declared.state.VoterState.{VoterState}
use Rattle.voter_node.specs.Nodes as nodes
use Rattle.world.specs.Restarts.{Saved, OneVoter, Saves}
use Rattle.world_state.specs.Steps.{Dealing, voter_at}
use Rattle.leases.specs.Comeback.{IsLawful}
use Rattle.world.specs.Incidents.{Incident, Happens, HasLimit, IsSkipped, all_befall}
use Rattle.leases.specs.NodeRuns.{AreSentAt, EvictsNone, HasVoter, MayComeToNode, Places, WasSent, given_out, incidents_of, saved_after, with_voter}
use Rattle.leases.specs.Orderly.{IsOrderly}

-- what happens in a service, in the order in which saves end
pub data Episode : Type 0 where
  -- Something befalls after which each voter is live as it is saved: a client's step or restart, a plan's
  -- exchange, the rebirth of a voter. A voter that gets another limit, or skips numbers, is saved at once.
  Befalls : Incident → Episode
  -- The node of this voter runs with these events. It begins with what is saved of the voter, and what it
  -- has not saved at their end is lost.
  Runs : ℕ → Places → List nodes.Event → Episode

-- what is saved of a voter
abbrev pub saved_voter : Saved → ℕ → VoterState
saved_voter s v = voter_at s.voters v

-- the save that follows an incident at once: that of a voter with another limit, or that skips numbers
abbrev pub save_after : Incident → List Incident
save_after (HasLimit v limit) = Happens (Saves (OneVoter v)) ∷ []
save_after (IsSkipped v above) = Happens (Saves (OneVoter v)) ∷ []
save_after i = []

-- The service after an episode. A node's run changes what is saved of its voter, and gives messages out.
abbrev pub serve : Dealing → Saved → Episode → Saved
serve deal s (Befalls i) = all_befall deal (i ∷ save_after i) s
serve deal s (Runs v places events) = with_voter s v (saved_after (saved_voter s v) events) (given_out (saved_voter s v) events)

-- the service after these episodes, in order
abbrev pub all_serve : Dealing → Saved → List Episode → Saved
all_serve deal s [] = s
all_serve deal s (t ∷ ts) = all_serve deal (serve deal s t) ts

-- the incidents that an episode is
abbrev pub incidents_in : Saved → Episode → List Incident
incidents_in s (Befalls i) = i ∷ save_after i
incidents_in s (Runs v places events) = incidents_of places (saved_voter s v) events

-- the incidents that these episodes are, in order
abbrev pub incidents_served : Dealing → Saved → List Episode → List Incident
incidents_served deal s [] = []
incidents_served deal s (t ∷ ts) = incidents_in s t ++ incidents_served deal (serve deal s t) ts

-- this holds of each episode, and of the service when it comes
abbrev pub AlongEpisodes : Dealing → (Saved → Episode → Type 0) → Saved → List Episode → Type 0
AlongEpisodes deal P s [] = Unit {0}
AlongEpisodes deal P s (t ∷ ts) = P s t × AlongEpisodes deal P (serve deal s t) ts

-- Each voter of the service has one state, live and saved, and each client of which it has a request is
-- there: between two episodes a voter's node has nothing that is not saved.
abbrev pub IsAllSaved : Saved → Type 0
IsAllSaved s = (v : ℕ) → v < length s.voters → HasVoter s v (saved_voter s v)

-- the incident leaves the voters as they are, live and saved, and the number of clients
pub record LeavesVoters (deal : Dealing) (s : Saved) (i : Incident) : Type 0 where
  pub live : (serve deal s (Befalls i)).live.voters ≡ s.live.voters
  pub saved : (serve deal s (Befalls i)).voters ≡ s.voters
  pub clients : length (serve deal s (Befalls i)).live.clients ≡ length s.live.clients

-- a node of this voter of the service may run with these events
pub record MayRunIn (s : Saved) (v : ℕ) (places : Places) (events : List nodes.Event) : Type 0 where
  pub there : v < length s.voters
  pub places_are : AreSentAt places s.live.sent
  pub events_may : AllByRecursion (MayComeToNode s.live.clients places (saved_voter s v)) events

-- the episode may come now
abbrev pub MayFollow : Dealing → Saved → Episode → Type 0
MayFollow deal s (Befalls i) = IsAllSaved (serve deal s (Befalls i))
MayFollow deal s (Runs v places events) = MayRunIn s v places events

-- no message to a voter is made up but evictions, and no client starts anew
abbrev pub IsLawfulEpisode : Saved → Episode → Type 0
IsLawfulEpisode s (Befalls i) = IsLawful s i
IsLawfulEpisode s (Runs v places events) = AllByRecursion (WasSent places) events

-- no message to a voter is made up, also no eviction
abbrev pub IsOrderlyEpisode : Saved → Episode → Type 0
IsOrderlyEpisode s (Befalls i) = IsOrderly s i
IsOrderlyEpisode s (Runs v places events) = AllByRecursion (WasSent places) events × AllByRecursion EvictsNone events
