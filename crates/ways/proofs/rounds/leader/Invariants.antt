use Rattle.ways.specs.Leaders.{LeadsBelow}
use Rattle.ways.proofs.rounds.leader.Given as goal

abbrev pub invariant-loop-client : goal.invariant-loop-client
invariant-loop-client l = LeadsBelow l.world.state l.client l.first
