use Rattle.generations.proofs.Inside.{none_behind}
use Rattle.generations.proofs.laws.nobody_is_two_plans_behind.Goals as goal

pub returns : goal.returns
returns c = none_behind
