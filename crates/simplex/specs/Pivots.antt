-- Numbers of pivots in faults.
use Rattle.std.specs.Prelude.{ℕ, ◌≤◌}
use Rattle.simplex.specs.declared.fault.SimplexFault.{SimplexFault}
use Rattle.simplex.specs.declared.fault.SimplexFault.TheVariants.{Overflow, PivotLimit, NoRow, OutOfMemory}

-- if the fault has a number of pivots, it is at most `most`
abbrev pub NamesAtMost : ℕ → SimplexFault → Type 0
NamesAtMost most (Overflow pivots) = pivots ≤ most
NamesAtMost most PivotLimit = Unit {0}
NamesAtMost most NoRow = Unit {0}
NamesAtMost most OutOfMemory = Unit {0}
