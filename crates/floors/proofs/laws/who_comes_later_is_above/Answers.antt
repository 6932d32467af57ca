use Rattle.floors.proofs.Dropped.{above, higher}
use Rattle.floors.proofs.laws.who_comes_later_is_above.Goals as goal

pub returns : goal.returns
returns c = record { epoch = above; base = higher }
