use Rattle.std.proofs.Common.{ℕ, ◌<◌}
use Rattle.fraction.specs.Rows.{lists_of, row_at, IsSmall}
use Rattle.fraction.proofs.rows.are_small.Given as goal

abbrev pub invariant-loop-i : goal.invariant-loop-i
invariant-loop-i l = (k : ℕ) → k < l.i → IsSmall (row_at (lists_of l.rows) k)
