use Rattle.std.proofs.Common.{rules}
use Rattle.construct.specs.Tree.{quorums_under}
use Rattle.construct.proofs.shapes.tree.quorums_of_leaf.Goals as goal

pub returns : goal.returns
unfolding quorums_under
returns c = search rules
