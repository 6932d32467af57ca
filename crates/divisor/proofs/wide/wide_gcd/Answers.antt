use Rattle.std.proofs.Common.{◌≡◌, sym, subst, arith}
use Rattle.std.specs.Int.{IsGcd}
use Rattle.std.proofs.lemmas.Nat.Gcd.{IsGcd-from_mod, IsGcd-from_zero}
use Rattle.divisor.proofs.wide.wide_gcd.Goals as goal

pub steps-preserved : goal.steps-preserved
steps-preserved c = λ g is. c.steps.invariant g (IsGcd-from_mod _ _ g is)

pub returns : goal.returns
returns c = c.steps.invariant _ (IsGcd-from_zero _ _ (omega arith))

pub returns-in-Ok-Ok : goal.returns-in-Ok-Ok
returns-in-Ok-Ok c =
    let left : c.in-Ok-Ok.greater ≡ c.steps.greater = c.in-Ok-Ok.ensures.1 in
    let right : c.in-Ok-Ok.less ≡ c.steps.less = c.in-Ok-Ok.ensures'.1 in
    let same : c.from.result ≡ c.gcd.result = c.from.ensures in
    let short : IsGcd c.in-Ok-Ok.greater c.in-Ok-Ok.less c.gcd.result = c.gcd.ensures.divisor in
    let shown = subst (λ a. IsGcd a c.in-Ok-Ok.less c.gcd.result) left short in
    c.steps.invariant c.from.result (subst (λ g. IsGcd c.steps.greater c.steps.less g) (sym same) (subst (λ b. IsGcd c.steps.greater b c.gcd.result) right shown))
