use Rattle.std.proofs.Common.{arith}
use Rattle.std.proofs.lemmas.Nat.Gcd.{IsGcd-from_mod, IsGcd-from_zero}
use Rattle.divisor.proofs.GcdLemmas.{gcd_of-IsGcd}
use Rattle.divisor.proofs.euclid.gcd.Goals as goal

pub steps-preserved : goal.steps-preserved
steps-preserved c = λ g is. c.steps.invariant g (IsGcd-from_mod _ _ g is)

pub returns-clause-value : goal.returns-clause-value
returns-clause-value c = gcd_of-IsGcd _ _ _ (c.steps.invariant _ (IsGcd-from_zero _ _ (omega arith)))

pub returns-clause-divisor : goal.returns-clause-divisor
returns-clause-divisor c = c.steps.invariant _ (IsGcd-from_zero _ _ (omega arith))
