use Rattle.world.proofs.EveryRun.{every_run_coherent}
use Rattle.world.proofs.laws.runs_are_coherent.Goals as goal

pub returns : goal.returns
returns c = every_run_coherent c.parts_keep_their_rules.ensures.clients c.parts_keep_their_rules.ensures.voters
