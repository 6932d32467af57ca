use Rattle.generations.proofs.Inside.{one_inside}
use Rattle.generations.proofs.laws.at_most_one_is_inside_over_plans.Goals as goal

pub returns : goal.returns
returns c = one_inside
