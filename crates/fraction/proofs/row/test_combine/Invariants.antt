use Rattle.std.proofs.Common.{ℕ, ◌<◌, pos, ◌*ℤ◌, get_or}
use Rattle.fraction.specs.Fractions.{Fits}
use Rattle.fraction.specs.Rows.{combine_entry}
use Rattle.fraction.proofs.row.test_combine.Given as goal

abbrev pub invariant-loop-j : goal.invariant-loop-j
invariant-loop-j l = (k : ℕ) → k < l.j → Fits (get_or l.row k (pos 0) *ℤ l.fn.scale) × Fits (l.fn.taken *ℤ get_or l.pivot_row k (pos 0)) × Fits (combine_entry l.row l.fn.scale l.pivot_row l.fn.taken k)
