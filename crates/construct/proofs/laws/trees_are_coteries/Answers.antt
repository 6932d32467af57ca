use Rattle.construct.proofs.TreeLemmas.{tree_is_coterie}
use Rattle.construct.proofs.laws.trees_are_coteries.Goals as goal

pub returns : goal.returns
returns c = tree_is_coterie
