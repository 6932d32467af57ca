use Rattle.std.proofs.Common.{◌≡◌, ℕ, ◌<◌, ◌≤◌, pos, ◌*ℤ◌, get_or}
use Rattle.fraction.proofs.row.divide.Given as goal

abbrev pub invariant-loop-entry : goal.invariant-loop-entry
invariant-loop-entry l = record {
  done : (j : ℕ) → j < l.entry-index → get_or l.row j (pos 0) *ℤ pos l.fn.divisor ≡ get_or l.fn.row j (pos 0);
  left : (j : ℕ) → l.entry-index ≤ j → get_or l.row j (pos 0) ≡ get_or l.fn.row j (pos 0);
}
