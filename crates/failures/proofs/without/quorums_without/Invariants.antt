use Rattle.std.proofs.Common.{◌≡◌, filter, take}
use Rattle.quorum_set.specs.Coteries.{are_disjoint}
use Rattle.failures.proofs.without.quorums_without.Given as goal

abbrev pub invariant-loop-j : goal.invariant-loop-j
invariant-loop-j l = l.left.items ≡ filter (are_disjoint l.failed) (take l.j l.coterie.quorums)
