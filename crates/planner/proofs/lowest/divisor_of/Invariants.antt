use Rattle.std.proofs.Common.{ℕ, ◌<◌, get_or}
use Rattle.std.specs.Int.{◌∣◌}
use Rattle.planner.proofs.lowest.divisor_of.Given as goal

abbrev pub invariant-loop-weight : goal.invariant-loop-weight
invariant-loop-weight l = record {
  divides : (j : ℕ) → j < l.weight-index → l.common ∣ get_or l.weights j 0;
  greatest : (d : ℕ) → ((j : ℕ) → j < l.weight-index → d ∣ get_or l.weights j 0) → d ∣ l.common;
}
