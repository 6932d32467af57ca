use Rattle.std.proofs.Common.{◌≡◌, ◌≤◌, ◌*◌, take}
use Rattle.losses.specs.Regrets.{price_at}
use Rattle.losses.proofs.bound.price_at.Given as goal

abbrev pub invariant-loop-failure : goal.invariant-loop-failure
invariant-loop-failure l = (l.sum ≡ price_at l.weights (take l.failure-index l.failures) l.quorum) × (l.sum ≤ l.failure-index * 1000000000000000000000000)
