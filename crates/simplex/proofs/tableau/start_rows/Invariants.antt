use Rattle.std.proofs.Common.{◌+◌, length}
use Rattle.simplex.specs.Starts.{AreStartRows}
use Rattle.simplex.proofs.tableau.start_rows.Given as goal

abbrev pub invariant-loop-row : goal.invariant-loop-row
invariant-loop-row l = AreStartRows l.row (length l.capacities + 3) l.rows.items
