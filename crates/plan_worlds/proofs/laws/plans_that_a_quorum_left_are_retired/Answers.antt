use Rattle.plan_worlds.proofs.Votes.{left_retired}
use Rattle.plan_worlds.proofs.laws.plans_that_a_quorum_left_are_retired.Goals as goal

pub returns : goal.returns
returns c = left_retired
