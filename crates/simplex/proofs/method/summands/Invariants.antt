use Rattle.std.proofs.Common.{◌+◌, ◌<◌}
use Rattle.std.specs.List.{All}
use Rattle.simplex.proofs.method.summands.Given as goal

abbrev pub invariant-loop-voter : goal.invariant-loop-voter
invariant-loop-voter l = All (λ j. j < l.voters + 3) l.columns.items
