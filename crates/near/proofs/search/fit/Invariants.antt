use Rattle.std.proofs.Common.{◌≡◌, ◌+◌, sum, take}
use Rattle.near.proofs.search.fit.Given as goal

abbrev pub invariant-loop-weight : goal.invariant-loop-weight
invariant-loop-weight l = sum (take l.weight-index l.weights) + l.left ≡ l.most
