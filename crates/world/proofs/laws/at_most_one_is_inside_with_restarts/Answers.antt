use Rattle.world.proofs.Restarts.{every_restart}
use Rattle.world.proofs.laws.at_most_one_is_inside_with_restarts.Goals as goal

pub returns : goal.returns
returns c = every_restart c.parts_keep_their_rules.ensures.clients c.parts_keep_their_rules.ensures.voters
