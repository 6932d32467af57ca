use Rattle.std.proofs.Common.{ℕ, ◌<◌}
use Rattle.fraction.specs.Tables.{SumFits}
use Rattle.fraction.specs.Rows.{lists_of, row_at}
use Rattle.fraction.proofs.rows.test_sums.Given as goal

abbrev pub invariant-loop-i : goal.invariant-loop-i
invariant-loop-i l = (k : ℕ) → k < l.i → SumFits (row_at (lists_of l.rows) k) l.columns
