use Rattle.std.proofs.Common.{◌≡◌, ◌<◌, ℕ, true}
use Rattle.fence.specs.Passes.{is_not_older}
use Rattle.fence.proofs.fence.Fence.are_new.Given as goal

abbrev pub invariant-loop-v : goal.invariant-loop-v
invariant-loop-v l = (u : ℕ) → u < l.v → is_not_older l.self.seen l.grants u ≡ true
