use Rattle.std.proofs.Common.{ℕ, ◌<◌, unsigned_abs, length}
use Rattle.std.specs.Int.{◌∣◌}
use Rattle.fraction.specs.Rows.{lists_of, row_at, entry_of}
use Rattle.fraction.proofs.rows.divisor_of.Given as goal

abbrev pub invariant-loop-i : goal.invariant-loop-i
invariant-loop-i l = record {
  number : l.common ∣ l.fn.start;
  entries : (i j : ℕ) → i < l.i → j < length (row_at (lists_of l.rows) i) → l.common ∣ unsigned_abs (entry_of (row_at (lists_of l.rows) i) j);
  greatest : (d : ℕ) → d ∣ l.fn.start → ((i j : ℕ) → i < l.i → j < length (row_at (lists_of l.rows) i) → d ∣ unsigned_abs (entry_of (row_at (lists_of l.rows) i) j)) → d ∣ l.common;
}
