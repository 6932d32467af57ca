use Rattle.std.proofs.Common.{◌≡◌, ◌++◌, map, take}
use Rattle.construct.specs.Tree.{with_node}
use Rattle.construct.proofs.shapes.tree.push_with_node.Given as goal

abbrev pub invariant-loop-set : goal.invariant-loop-set
invariant-loop-set l = l.quorums.items ≡ l.fn.quorums.items ++ map (with_node l.i) (take l.set-index l.sets)
