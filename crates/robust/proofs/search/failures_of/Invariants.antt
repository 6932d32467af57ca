use Rattle.std.specs.List.{All}
use Rattle.robust.specs.Robust.{IsPlanned}
use Rattle.robust.proofs.search.failures_of.Given as goal

abbrev pub invariant-loop-number : goal.invariant-loop-number
invariant-loop-number l = All (IsPlanned l.coterie l.capacities) l.failures.items
