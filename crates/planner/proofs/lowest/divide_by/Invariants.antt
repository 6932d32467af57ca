use Rattle.std.proofs.Common.{◌≡◌, ◌/◌, ◌++◌, map, take, drop}
use Rattle.planner.proofs.lowest.divide_by.Given as goal

abbrev pub invariant-loop-weight : goal.invariant-loop-weight
invariant-loop-weight l = l.weights ≡ map (λ weight. weight / l.divisor) (take l.weight-index l.fn.weights) ++ drop l.weight-index l.fn.weights
