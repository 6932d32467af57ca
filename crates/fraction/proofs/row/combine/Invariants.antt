use Rattle.std.proofs.Common.{◌≡◌, ℕ, ◌<◌, ◌≤◌, pos, get_or}
use Rattle.fraction.specs.Rows.{combine_entry}
use Rattle.fraction.proofs.row.combine.Given as goal

abbrev pub invariant-loop-j : goal.invariant-loop-j
invariant-loop-j l = record {
  done : (k : ℕ) → k < l.j → get_or l.row k (pos 0) ≡ combine_entry l.fn.row l.fn.scale l.pivot_row l.fn.taken k;
  left : (k : ℕ) → l.j ≤ k → get_or l.row k (pos 0) ≡ get_or l.fn.row k (pos 0);
}
