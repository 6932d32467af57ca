use Rattle.std.proofs.Common.{◌≢◌, ℕ, ◌<◌}
use Rattle.fraction.specs.Rows.{lists_of, row_at, EliminateFits}
use Rattle.fraction.proofs.rows.test_others.Given as goal

abbrev pub invariant-loop-i : goal.invariant-loop-i
invariant-loop-i l = (k : ℕ) → k < l.i → k ≢ l.row → EliminateFits (row_at (lists_of l.rows) k) l.fn.scale (row_at (lists_of l.rows) l.row) l.column
