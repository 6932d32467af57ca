use Rattle.std.proofs.Common.{◌-ℤ◌, ◌*ℤ◌, IfOk, subst}
use Rattle.fraction.specs.Fractions.{IsRatio}
use Rattle.fraction.proofs.Passed.{passed-equal, passed-formed, Fits-formed, formed-unfit, IsOk-iff_unmet}
use Rattle.fraction.proofs.frac.Frac.sub.Goals as goal

pub returns-in_err-num-clause-fits : goal.returns-in_err-num-clause-fits
returns-in_err-num-clause-fits c =
    IsOk-iff_unmet _ _ c.from_residual-in_err-num.ensures.0
    (λ fits. formed-unfit ◌-ℤ◌ _ _ _ _ (passed-equal _ _ c.in_ok-cross_product.ensures) (passed-equal _ _ c.in_ok-cross_product-2.ensures) c.in_err-num.ensures.1 fits.3)

pub returns-clause-value : goal.returns-clause-value
returns-clause-value c =
    subst (λ z. IfOk c.over_product.result (IsRatio z (c.args.self.den *ℤ c.args.other.den)))
    (passed-formed ◌-ℤ◌ _ _ _ _ _ (passed-equal _ _ c.in_ok-cross_product.ensures) (passed-equal _ _ c.in_ok-cross_product-2.ensures) c.in_ok-num.ensures) c.over_product.ensures.value

pub returns-clause-fits : goal.returns-clause-fits
returns-clause-fits c =
    let num = Fits-formed ◌-ℤ◌ _ _ _ _ (passed-equal _ _ c.in_ok-cross_product.ensures) (passed-equal _ _ c.in_ok-cross_product-2.ensures) c.in_ok-num.ensures.1 in
    (λ ok. (c.in_ok-cross_product.ensures.1, c.in_ok-cross_product-2.ensures.1, c.over_product.ensures.fits.0 ok, num), λ fits. c.over_product.ensures.fits.1 fits.2)
