use Rattle.std.proofs.Common.{ℕ, ◌<◌, ◌≤◌, ◌^◌, pos, unsigned_abs, get_or}
use Rattle.fraction.proofs.row.is_small.Given as goal

abbrev pub invariant-loop-entry : goal.invariant-loop-entry
invariant-loop-entry l = (j : ℕ) → j < l.entry-index → unsigned_abs (get_or l.row j (pos 0)) ≤ 2 ^ 62
