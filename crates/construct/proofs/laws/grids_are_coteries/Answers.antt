use Rattle.construct.proofs.GridLemmas.{grid_is_coterie}
use Rattle.construct.proofs.laws.grids_are_coteries.Goals as goal

pub returns : goal.returns
returns c = λ r k rows columns few. grid_is_coterie r k rows columns few
