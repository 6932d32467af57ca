use Rattle.floors.proofs.Dropped.{forgets}
use Rattle.floors.proofs.laws.to_forget_is_to_drop.Goals as goal

pub returns : goal.returns
returns c = forgets
