use Rattle.floors.proofs.Dropped.{begins}
use Rattle.floors.proofs.laws.what_is_dropped_begins_at_its_floor.Goals as goal

pub returns : goal.returns
returns c = begins
