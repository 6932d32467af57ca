-- A world as the code keeps it, and the room that a step needs.
use Rattle.std.specs.Prelude.{◌+◌, ◌≤◌, vec_capacity, vec_len}
use Rattle.dealer.specs.Plans.{PlanPair}
use Rattle.requester.specs.declared.state.Seen.{Seen}
use Rattle.requester.specs.declared.state.Seen.TheVariants.{Nothing, Left}
use Rattle.requester.specs.Steps as client
use Rattle.world_state.specs.declared.cycles.Cycles.{Cycles}
use Rattle.world_state.specs.declared.moves.Ending.{Ending}
use Rattle.world_state.specs.declared.moves.Ending.TheVariants as endings
use Rattle.world_state.specs.declared.state.State.{State}
use Rattle.world_state.specs.Steps.{WorldState}

-- the contents of the lists that the code keeps
abbrev pub contents_of : State → WorldState
contents_of s = record {
  clients = s.clients.items;
  voters = s.voters.items;
  sent = s.sent.items;
  draws = s.draws.items;
  draws2 = s.draws2.items;
  side = s.side;
  visible = s.visible.items;
}

-- Room for one step. A step sends at most 128 messages: those of a reminder to 64 voters.
pub record HasRoom (s : State) : Type 0 where
  pub sent : vec_len s.sent + 128 ≤ vec_capacity s.sent
  pub draws : vec_len s.draws + 1 ≤ vec_capacity s.draws
  pub draws2 : vec_len s.draws2 + 1 ≤ vec_capacity s.draws2
  pub visible : vec_len s.visible + 1 ≤ vec_capacity s.visible

-- the plans of the cycles that the code keeps
abbrev pub plans_of : Cycles → PlanPair
plans_of c = record { first = c.first; second = c.second }

-- the step of a client that ends its request in this way
abbrev pub cause_of : Ending → client.Cause
cause_of endings.Leaves = client.Leaves
cause_of endings.GivesUp = client.GivesUp

-- what is seen of a client that ends its request in this way
abbrev pub seen_of : Ending → Seen
seen_of endings.Leaves = Left
seen_of endings.GivesUp = Nothing
