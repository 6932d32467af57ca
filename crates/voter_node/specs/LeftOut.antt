-- Saves that are left out: by a host that restarts from the least of what it saved.
use Rattle.std.specs.Prelude.{◌≡◌, Bool, true, false, List, [], ◌∷◌}
use Rattle.voter.specs.declared.state.VoterState.{VoterState}
use Rattle.voter.specs.Saved.{least_voter}
use Rattle.voter_node.specs.Nodes.{Node, Event, Takes, Evicts, Reminds, IsSaved, Restarts, Forgets, after, node_step}

-- an event, and whether its host saves the voter before it says so
pub record HostTurn : Type 0 where
  pub event : Event
  pub saves : Bool

-- the voters have the same least: the grant, the number of grants, and their number and their limit
abbrev pub HaveSameLeast : VoterState → VoterState → Type 0
HaveSameLeast v w = least_voter v ≡ least_voter w

-- Whether a host may do so that restarts by forgetting. It may leave a save out if the voter has the
-- same least as when the node last heard that it is saved.
abbrev pub MayLeaveOut : Node → Event → Bool → Type 0
MayLeaveOut n (Takes m) saves = Unit {0}
MayLeaveOut n (Evicts grant) saves = Unit {0}
MayLeaveOut n Reminds saves = Unit {0}
MayLeaveOut n IsSaved true = Unit {0}
MayLeaveOut n IsSaved false = HaveSameLeast n.saved n.live
MayLeaveOut n Restarts saves = ⊥
MayLeaveOut n Forgets saves = Unit {0}

-- a host that restarts by forgetting may do all of this, in order
abbrev pub LeaveOut : Node → List HostTurn → Type 0
LeaveOut n [] = Unit {0}
LeaveOut n (t ∷ ts) = MayLeaveOut n t.event t.saves × LeaveOut (after n (node_step n t.event)) ts

-- what is on the host's disk after an event, by what was there before
abbrev pub disk_after : Node → VoterState → Event → Bool → VoterState
disk_after n disk IsSaved true = n.live
disk_after n disk e saves = disk

-- a node, and what is on its host's disk
pub record Host : Type 0 where
  pub node : Node
  pub disk : VoterState

-- the node and the disk after all of this
abbrev pub host_after : Host → List HostTurn → Host
host_after h [] = h
host_after h (t ∷ ts) = host_after (record {
  node = after h.node (node_step h.node t.event);
  disk = disk_after h.node h.disk t.event t.saves;
}) ts
