use Rattle.generations.proofs.Turns.{in_turn}
use Rattle.generations.proofs.laws.turns_grow_over_plans.Goals as goal

pub returns : goal.returns
returns c = in_turn c.turns_grow.ensures
