use Rattle.std.proofs.Common.{◌≡◌, vec_len}
use Rattle.basis.proofs.ratio.whole.Given as goal

abbrev pub invariant-loop-ratio : goal.invariant-loop-ratio
invariant-loop-ratio l = vec_len l.numbers ≡ l.ratio-index
