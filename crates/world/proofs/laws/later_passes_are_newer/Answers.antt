use Rattle.world.proofs.Fences.{later_passes}
use Rattle.world.proofs.laws.later_passes_are_newer.Goals as goal

pub returns : goal.returns
returns c = later_passes c.parts_keep_their_rules.ensures.clients c.parts_keep_their_rules.ensures.voters
