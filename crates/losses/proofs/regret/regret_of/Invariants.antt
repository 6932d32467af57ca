use Rattle.std.proofs.Common.{◌≡◌, ◌<◌, ℕ, get_or, take}
use Rattle.losses.specs.Regrets.{IsBorne, regret_of}
use Rattle.losses.specs.declared.failure.Failure.{Failure}
use Rattle.losses.proofs.regret.regret_of.Given as goal

abbrev pub invariant-loop-failure : goal.invariant-loop-failure
invariant-loop-failure l = (l.greatest ≡ regret_of l.weights (take l.failure-index l.failures)) × ((k : ℕ) (d : Failure) → k < l.failure-index → IsBorne l.weights (get_or l.failures k d))
