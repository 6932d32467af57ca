use Rattle.plan_worlds.proofs.Worlds.{nobody_ahead}
use Rattle.plan_worlds.proofs.laws.no_voter_is_two_plans_ahead.Goals as goal

pub returns : goal.returns
returns c = nobody_ahead c.parts_keep_their_rules.ensures.clients c.parts_keep_their_rules.ensures.voters
