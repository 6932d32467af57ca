use Rattle.std.proofs.Common.{ℕ, ◌<◌, pos, unsigned_abs, get_or}
use Rattle.std.specs.Int.{◌∣◌}
use Rattle.fraction.proofs.row.divisor_of.Given as goal

abbrev pub invariant-loop-entry : goal.invariant-loop-entry
invariant-loop-entry l = record {
  number : l.common ∣ l.fn.start;
  entries : (j : ℕ) → j < l.entry-index → l.common ∣ unsigned_abs (get_or l.row j (pos 0));
  greatest : (d : ℕ) → d ∣ l.fn.start → ((j : ℕ) → j < l.entry-index → d ∣ unsigned_abs (get_or l.row j (pos 0))) → d ∣ l.common;
}
