use Rattle.floors.proofs.Dropped.{learned}
use Rattle.floors.proofs.laws.floors_are_learned_as_rows.Goals as goal

pub returns : goal.returns
returns c = learned
