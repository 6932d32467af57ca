use Rattle.std.proofs.Common.{◌≡◌, ℕ, ◌<◌, ◌≤◌}
use Rattle.fraction.specs.Rows.{lists_of, row_at, IsDivided}
use Rattle.fraction.proofs.rows.divide.Given as goal

abbrev pub invariant-loop-row : goal.invariant-loop-row
invariant-loop-row l = record {
  done : (k : ℕ) → k < l.row-index → IsDivided l.fn.divisor (row_at (lists_of l.fn.rows) k) (row_at (lists_of l.rows) k);
  left : (k : ℕ) → l.row-index ≤ k → row_at (lists_of l.rows) k ≡ row_at (lists_of l.fn.rows) k;
}
