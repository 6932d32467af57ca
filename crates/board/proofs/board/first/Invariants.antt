use Rattle.std.proofs.Common.{◌≡◌, ℕ, get_or, nat_lt, false, length}
use Rattle.std.specs.List.{sum_by}
use Rattle.board.specs.Roots.{weight}
use Rattle.board.proofs.board.first.Given as goal

abbrev pub invariant-loop-i : goal.invariant-loop-i
invariant-loop-i l = record {
  first : (k : ℕ) → get_or l.flags k false ≡ nat_lt k l.i;
  total : sum_by weight l.flags ≡ l.i;
  wide : length l.flags ≡ 64;
}
