use Rattle.std.proofs.Common.{◌≡◌, ◌++◌, map, take}
use Rattle.construct.specs.Tree.{union}
use Rattle.construct.proofs.shapes.tree.push_unions_with.Given as goal

abbrev pub invariant-loop-other : goal.invariant-loop-other
invariant-loop-other l = l.quorums.items ≡ l.fn.quorums.items ++ map (union l.set) (take l.other-index l.others)
