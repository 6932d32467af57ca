-- Voters that run as nodes (`voter_node`): what befalls a lock by the events of a node.
use Rattle.std.specs.Prelude.{ℕ, ◌≡◌, ◌<◌, ◌==◌, true, List, [], ◌∷◌, ◌++◌, Option, None, Some, Result, Ok, Err, if◌then◌else◌, length, map, slice_get, slice_set}
use Rattle.std.specs.List.{AllByRecursion}
use Rattle.message.specs.declared.message.Message.{Message}
use Rattle.message.specs.declared.message.Message.TheVariants as kinds
use Rattle.message.specs.declared.message.ToClient.{ToClient}
use Rattle.message.specs.declared.message.ToVoter.{ToVoter}
use Rattle.requester.specs.declared.state.ClientState.{ClientState}
use Rattle.voter.specs.declared.state.Grant.{Grant}
use Rattle.voter.specs.declared.state.VoterState.{VoterState}
use Rattle.voter.specs.Leases.{release_of}
use Rattle.voter.specs.VoterContract.{IsEntry}
use Rattle.voter_node.specs.declared.fault.NodeFault.{NodeFault}
use Rattle.voter_node.specs.Nodes as nodes
use Rattle.world_state.specs.declared.step.Step.TheVariants.{Deliver, RemindVoter}
use Rattle.world.specs.Restarts.{Saved, OneVoter, Goes, Saves, Forgets, Restarts}
use Rattle.world_state.specs.Steps.{client_at, voter_at}
use Rattle.world.specs.Incidents.{Incident, Happens, Hears, is_request_within}

-- The voter with this number has this state in the world, live and saved. Each client of which it has a
-- request is one of the world's.
pub record HasVoter (s : Saved) (v : ℕ) (y : VoterState) : Type 0 where
  pub lives : v < length s.live.voters
  pub is_saved : v < length s.voters
  pub id : y.id ≡ v
  pub live : voter_at s.live.voters v ≡ y
  pub saved : voter_at s.voters v ≡ y
  pub clients : (c stamp : ℕ) → IsEntry y c stamp → c < length s.live.clients

-- the same world, in which this voter has this state, live and saved, and these messages more were sent
abbrev pub with_voter : Saved → ℕ → VoterState → List ToClient → Saved
with_voter s v y more = record s {
  live = record s.live { voters = slice_set s.live.voters v y; sent = s.live.sent ++ map kinds.ToClient more };
  voters = slice_set s.voters v y;
}

-- where a message was sent: its place among all that were; none if nobody sent it
abbrev pub Places : Type 0
Places = ToVoter → Option ℕ

-- if nobody sent the message, the stamp of a REQUEST is from 1 to the client's limit
abbrev pub UnsentIsInRange : ClientState → Option ℕ → ToVoter → Type 0
UnsentIsInRange x None m = is_request_within x.limit m.body ≡ true
UnsentIsInRange x (Some k) m = Unit {0}

-- An event may come to this voter beside these clients: a message is for this voter and names one of the
-- clients. If nobody sent it, its stamp is in range.
abbrev pub MayComeToNode : List ClientState → Places → VoterState → nodes.Event → Type 0
MayComeToNode clients places y (nodes.Takes m) =
    (m.voter ≡ y.id) × (m.client < length clients) × UnsentIsInRange (client_at clients m.client) (places m) m
MayComeToNode clients places y (nodes.Evicts grant) = Unit {0}
MayComeToNode clients places y nodes.Reminds = Unit {0}
MayComeToNode clients places y nodes.IsSaved = Unit {0}
MayComeToNode clients places y nodes.Restarts = Unit {0}
MayComeToNode clients places y nodes.Forgets = Unit {0}

-- the messages are at these places
abbrev pub AreSentAt : Places → List Message → Type 0
AreSentAt places sent = (m : ToVoter) (k : ℕ) → places m ≡ Some k → slice_get sent k ≡ Some (kinds.ToVoter m)

-- a node of this voter may run in this world, with these events
pub record MayRun (s : Saved) (places : Places) (y : VoterState) (events : List nodes.Event) : Type 0 where
  pub voter : HasVoter s y.id y
  pub places_are : AreSentAt places s.live.sent
  pub events_may : AllByRecursion (MayComeToNode s.live.clients places y) events

-- a message arrives, or is heard though nobody sent it
abbrev pub arrival_by : Option ℕ → ToVoter → Incident
arrival_by (Some k) m = Happens (Goes (Deliver k))
arrival_by None m = Hears m

-- the voter hears a RELEASE of its current grant, if that has this number
abbrev pub eviction_of : Option Grant → VoterState → ℕ → List Incident
eviction_of None y grant = []
eviction_of (Some g) y grant = if g.grant == grant then Hears (release_of y g) ∷ [] else []

-- a refused event is no incident
abbrev pub unless_refused : Result nodes.Turn NodeFault → List Incident → List Incident
unless_refused (Ok t) is = is
unless_refused (Err fault) is = []

-- the incidents that wait after an event: those of the steps since the last save
abbrev pub waits_after : Places → nodes.Node → List Incident → nodes.Event → List Incident
waits_after places n waiting (nodes.Takes m) =
    waiting ++ unless_refused (nodes.node_step n (nodes.Takes m)) (arrival_by (places m) m ∷ [])
waits_after places n waiting (nodes.Evicts grant) =
    waiting ++ unless_refused (nodes.node_step n (nodes.Evicts grant)) (eviction_of n.live.held n.live grant)
waits_after places n waiting nodes.Reminds =
    waiting ++ unless_refused (nodes.node_step n nodes.Reminds) (Happens (Goes (RemindVoter n.live.id)) ∷ [])
waits_after places n waiting nodes.IsSaved = []
waits_after places n waiting nodes.Restarts = []
waits_after places n waiting nodes.Forgets = []

-- The incidents that befall at an event. At a save they are those that waited, and the save. At a crash
-- those that waited never befall.
abbrev pub befall_at : nodes.Node → List Incident → nodes.Event → List Incident
befall_at n waiting nodes.IsSaved = waiting ++ Happens (Saves (OneVoter n.live.id)) ∷ []
befall_at n waiting nodes.Forgets = Happens (Forgets (OneVoter n.live.id)) ∷ Happens (Restarts (OneVoter n.live.id)) ∷ []
befall_at n waiting e = []

-- the incidents that these events of a node are, in order, by those that wait
abbrev pub incidents_from : Places → nodes.Node → List Incident → List nodes.Event → List Incident
incidents_from places n waiting [] = []
incidents_from places n waiting (e ∷ es) =
    befall_at n waiting e ++ incidents_from places (nodes.after n (nodes.node_step n e)) (waits_after places n waiting e) es

-- the incidents that these events are of a node that begins with this voter
abbrev pub incidents_of : Places → VoterState → List nodes.Event → List Incident
incidents_of places y events = incidents_from places (nodes.node_of y) [] events

-- the voter as a node has it saved after these events, if it begins with this voter
abbrev pub saved_after : VoterState → List nodes.Event → VoterState
saved_after y events = (nodes.run (nodes.node_of y) events).saved

-- the messages that a node gives out by these events, if it begins with this voter
abbrev pub given_out : VoterState → List nodes.Event → List ToClient
given_out y events = nodes.gives (nodes.node_of y) events

-- if the event is a message, it was sent
abbrev pub WasSent : Places → nodes.Event → Type 0
WasSent places (nodes.Takes m) = (k : ℕ) × (places m ≡ Some k)
WasSent places e = Unit {0}

-- the event is no eviction
abbrev pub EvictsNone : nodes.Event → Type 0
EvictsNone (nodes.Evicts grant) = ⊥
EvictsNone e = Unit {0}
