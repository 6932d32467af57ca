use Rattle.std.proofs.Common.{ℕ, ◌<◌, get_or}
use Rattle.losses.specs.Regrets.{IsUsable}
use Rattle.losses.specs.declared.failure.Failure.{Failure}
use Rattle.losses.proofs.failure.are_all_usable.Given as goal

abbrev pub invariant-loop-failure : goal.invariant-loop-failure
invariant-loop-failure l = (k : ℕ) (d : Failure) → k < l.failure-index → IsUsable l.coterie (get_or l.failures k d)
