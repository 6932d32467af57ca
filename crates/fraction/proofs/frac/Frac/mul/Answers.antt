use Rattle.std.proofs.Common.{◌*ℤ◌, IfOk, subst}
use Rattle.fraction.specs.Fractions.{IsRatio}
use Rattle.fraction.proofs.Passed.{passed-num, passed-formed, Fits-formed, formed-unfit, IsOk-iff_unmet}
use Rattle.fraction.proofs.frac.Frac.mul.Goals as goal

pub returns-in_err-num-clause-fits : goal.returns-in_err-num-clause-fits
returns-in_err-num-clause-fits c =
    let own = passed-num _ _ _ c.self.invariant c.self.view_is in
    let other = passed-num _ _ _ c.other.invariant c.other.view_is in
    IsOk-iff_unmet _ _ c.from_residual.ensures.0 (λ fits. formed-unfit ◌*ℤ◌ _ _ _ _ own other c.in_err-num.ensures.1 fits.0)

pub returns-clause-value : goal.returns-clause-value
returns-clause-value c =
    let own = passed-num _ _ _ c.self.invariant c.self.view_is in
    let other = passed-num _ _ _ c.other.invariant c.other.view_is in
    subst (λ z. IfOk c.over_product.result (IsRatio z (c.args.self.den *ℤ c.args.other.den))) (passed-formed ◌*ℤ◌ _ _ _ _ _ own other c.in_ok-num.ensures) c.over_product.ensures.value

pub returns-clause-fits : goal.returns-clause-fits
returns-clause-fits c =
    let own = passed-num _ _ _ c.self.invariant c.self.view_is in
    let other = passed-num _ _ _ c.other.invariant c.other.view_is in
    (λ ok. (Fits-formed ◌*ℤ◌ _ _ _ _ own other c.in_ok-num.ensures.1, c.over_product.ensures.fits.0 ok), λ fits. c.over_product.ensures.fits.1 fits.1)
