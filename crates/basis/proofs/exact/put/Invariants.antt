use Rattle.std.proofs.Common.{◌≡◌, length}
use Rattle.basis.proofs.exact.put.Given as goal

abbrev pub invariant-loop-place : goal.invariant-loop-place
invariant-loop-place l = length l.weights ≡ length l.fn.weights
