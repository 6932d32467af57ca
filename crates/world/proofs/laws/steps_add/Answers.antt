use Rattle.world.proofs.Added.{Adds-step}
use Rattle.world.proofs.laws.steps_add.Goals as goal

pub returns : goal.returns
returns c = Adds-step
