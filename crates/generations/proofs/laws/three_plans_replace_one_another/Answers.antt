use Rattle.generations.proofs.Example.{three_replace}
use Rattle.generations.proofs.laws.three_plans_replace_one_another.Goals as goal

pub returns : goal.returns
returns c = three_replace
