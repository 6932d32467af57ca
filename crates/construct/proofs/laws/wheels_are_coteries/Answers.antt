use Rattle.construct.proofs.WheelLemmas.{wheel_is_coterie}
use Rattle.construct.proofs.laws.wheels_are_coteries.Goals as goal

pub returns : goal.returns
returns c = wheel_is_coterie
