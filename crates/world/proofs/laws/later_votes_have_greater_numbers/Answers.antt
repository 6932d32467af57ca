use Rattle.world.proofs.Fences.{later_votes}
use Rattle.world.proofs.laws.later_votes_have_greater_numbers.Goals as goal

pub returns : goal.returns
returns c = later_votes c.parts_keep_their_rules.ensures.clients c.parts_keep_their_rules.ensures.voters
