use Rattle.std.proofs.Common.{ℕ}
use Rattle.std.specs.Int.{IsGcd}
use Rattle.divisor.proofs.euclid.gcd.Given as goal

abbrev pub invariant-steps : goal.invariant-steps
invariant-steps l = (g : ℕ) → IsGcd l.greater l.less g → IsGcd l.fn.a l.fn.b g

abbrev pub decreases-steps : goal.decreases-steps
decreases-steps l = l.less
