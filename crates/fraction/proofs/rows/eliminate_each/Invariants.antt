use Rattle.std.proofs.Common.{◌≡◌, ℕ, ◌<◌, ◌≤◌}
use Rattle.fraction.specs.Rows.{lists_of, row_at, IsEliminated}
use Rattle.fraction.proofs.rows.eliminate_each.Given as goal

abbrev pub invariant-loop-row : goal.invariant-loop-row
invariant-loop-row l = record {
  done : (k : ℕ) → k < l.row-index → IsEliminated (row_at (lists_of l.fn.rows) k) (row_at (lists_of l.rows) k) l.fn.scale l.pivot_row l.column;
  left : (k : ℕ) → l.row-index ≤ k → row_at (lists_of l.rows) k ≡ row_at (lists_of l.fn.rows) k;
}
