use Rattle.std.proofs.Common.{◌≡◌, ℕ, ◌≤◌, take}
use Rattle.fraction.specs.Fractions.{Fits}
use Rattle.fraction.specs.Tables.{sum_in}
use Rattle.fraction.proofs.row.sum_of.Given as goal

abbrev pub invariant-loop-column : goal.invariant-loop-column
invariant-loop-column l = record {
  total : l.total ≡ sum_in l.row (take l.column-index l.columns);
  fits : (k : ℕ) → k ≤ l.column-index → Fits (sum_in l.row (take k l.columns));
}
