use Rattle.plan_worlds.proofs.Worlds.{one_over_plans}
use Rattle.plan_worlds.proofs.laws.at_most_one_client_is_inside_over_plans.Goals as goal

pub returns : goal.returns
returns c = one_over_plans c.parts_keep_their_rules.ensures.clients c.parts_keep_their_rules.ensures.voters
