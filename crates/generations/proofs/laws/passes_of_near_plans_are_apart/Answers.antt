use Rattle.generations.proofs.Turns.{near_apart}
use Rattle.generations.proofs.laws.passes_of_near_plans_are_apart.Goals as goal

pub returns : goal.returns
returns c = near_apart c.passes_are_apart.ensures
