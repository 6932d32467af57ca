-- A world as the code keeps it, with and without saved states.
use Rattle.std.specs.Prelude.{◌≡◌, length}
use Rattle.std.specs.List.{AllByRecursion}
use Rattle.message.specs.Lines.{HasLine}
use Rattle.world.specs.declared.stored.Maker.{Maker}
use Rattle.world.specs.declared.stored.Maker.TheVariants as makers
use Rattle.world.specs.declared.stored.Stored.{Stored}
use Rattle.world_state.specs.Numbered.{IsNumbered}
use Rattle.world_state.specs.States.{contents_of}
use Rattle.world.specs.Restarts.{Node, OneClient, OneVoter, Nobody, Saved}
use Rattle.world.specs.Runs.{DrawsInOrder, IsReached}
use Rattle.world_state.specs.Steps.{Planned}
use Rattle.world.specs.Visible.{IsExclusive}

-- What a world keeps: some list of steps made it from a new one. So at most one client is inside, each
-- message has a line, the tickets of each plan are drawn in order, and clients and voters are numbered.
pub record IsWorld (w : Planned) : Type 0 where
  pub reached : IsReached w
  pub exclusive : IsExclusive w.state.visible
  pub lines : AllByRecursion HasLine w.state.sent
  pub tickets : DrawsInOrder w.state.draws
  pub tickets2 : DrawsInOrder w.state.draws2
  pub numbered : IsNumbered w.state

-- the live world and the saved states that the code keeps
abbrev pub saved_of : Stored → Saved
saved_of s = record { live = contents_of s.state; clients = s.clients.items; voters = s.voters.items }

-- there are as many saved clients and voters as live ones
pub record IsStored (s : Stored) : Type 0 where
  pub clients : length s.clients.items ≡ length s.state.clients.items
  pub voters : length s.voters.items ≡ length s.state.voters.items

-- the client or voter that makes a step, as the code has it
abbrev pub node_of : Maker → Node
node_of (makers.Client c) = OneClient c
node_of (makers.Voter v) = OneVoter v
node_of makers.Nobody = Nobody
