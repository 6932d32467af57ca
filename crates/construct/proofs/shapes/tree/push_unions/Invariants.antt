use Rattle.std.proofs.Common.{◌≡◌, ◌++◌, map, take}
use Rattle.std.specs.List.{flat_map}
use Rattle.construct.specs.Tree.{union}
use Rattle.construct.proofs.shapes.tree.push_unions.Given as goal

abbrev pub invariant-loop-set : goal.invariant-loop-set
invariant-loop-set l = l.quorums.items ≡ l.fn.quorums.items ++ flat_map (λ p. map (union p) l.right) (take l.set-index l.left)
