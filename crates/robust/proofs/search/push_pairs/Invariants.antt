use Rattle.std.specs.List.{All}
use Rattle.robust.specs.Robust.{IsPlanned}
use Rattle.robust.proofs.search.push_pairs.Given as goal

abbrev pub invariant-loop-other : goal.invariant-loop-other
invariant-loop-other l = All (IsPlanned l.coterie l.capacities) l.fn.failures.items → All (IsPlanned l.coterie l.capacities) l.failures.items
