use Rattle.plan_worlds.proofs.Example.{can_be_had}
use Rattle.plan_worlds.proofs.laws.clients_of_far_plans_follow.Goals as goal

pub returns : goal.returns
returns c = can_be_had
