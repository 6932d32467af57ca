use Rattle.std.proofs.Common.{◌≡◌, ◌≤◌, ◌*◌, take}
use Rattle.losses.specs.Regrets.{gain_at}
use Rattle.losses.proofs.bound.gain_at.Given as goal

abbrev pub invariant-loop-failure : goal.invariant-loop-failure
invariant-loop-failure l = (l.sum ≡ gain_at (take l.failure-index l.failures) l.quorum) × (l.sum ≤ l.failure-index * 64000000)
