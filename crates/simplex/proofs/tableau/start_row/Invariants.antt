use Rattle.std.proofs.Common.{◌≡◌, ℕ, ◌<◌, pos, get_or, vec_len}
use Rattle.fraction.specs.Fractions.{Fits}
use Rattle.simplex.proofs.tableau.start_row.Given as goal

abbrev pub invariant-loop-column : goal.invariant-loop-column
invariant-loop-column l = record {
  count : vec_len l.entries ≡ l.column;
  fits : (j : ℕ) → j < l.column → Fits (get_or l.entries.items j (pos 0));
}
