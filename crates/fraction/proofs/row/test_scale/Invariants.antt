use Rattle.std.proofs.Common.{ℕ, ◌<◌, pos, ◌*ℤ◌, get_or}
use Rattle.fraction.specs.Fractions.{Fits}
use Rattle.fraction.proofs.row.test_scale.Given as goal

abbrev pub invariant-loop-entry : goal.invariant-loop-entry
invariant-loop-entry l = (j : ℕ) → j < l.entry-index → Fits (get_or l.row j (pos 0) *ℤ l.factor)
