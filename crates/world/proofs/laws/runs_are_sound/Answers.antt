use Rattle.world.proofs.EveryRun.{every_run}
use Rattle.world.proofs.laws.runs_are_sound.Goals as goal

pub returns : goal.returns
returns c = every_run c.parts_keep_their_rules.ensures.clients c.parts_keep_their_rules.ensures.voters
