use Rattle.std.proofs.Common.{◌*ℤ◌, of_z, ap}
use Rattle.std.specs.Int.{w128}
use Rattle.fraction.proofs.Lowest.{positive-some}
use Rattle.fraction.proofs.Passed.{to_z-of_z_fits, passed-fits, passed-num, passed-den, passed-formed, passed_product-some, IsRatio-passed, formed-unfit, IsOk-iff_unmet}
use Rattle.fraction.proofs.frac.Frac.div.Goals as goal

pub returns-in_err-num-clause-fits : goal.returns-in_err-num-clause-fits
returns-in_err-num-clause-fits c =
    let own = passed-num _ _ _ c.self.invariant c.self.view_is in
    let other = passed-den _ _ _ c.other.invariant c.other.view_is in
    IsOk-iff_unmet _ _ c.from_residual.ensures.0 (λ fits. formed-unfit ◌*ℤ◌ _ _ _ _ own other c.in_err-num.ensures.1 fits.1.0)

pub returns-in_err-product-clause-fits : goal.returns-in_err-product-clause-fits
returns-in_err-product-clause-fits c =
    let own = passed-den _ _ _ c.self.invariant c.self.view_is in
    let other = passed-num _ _ _ c.other.invariant c.other.view_is in
    IsOk-iff_unmet _ _ c.from_residual-in_err-product.ensures.0 (λ fits. formed-unfit ◌*ℤ◌ _ _ _ _ own other c.in_err-product.ensures.1 fits.1.1)

pub reduced-requires : goal.reduced-requires
reduced-requires c = record {
  divisor = passed_product-some _ c.self.inside.den c.other.inside.num _ _ (to_z-of_z_fits c.self.inside.den c.self.invariant.den_fits)
      (to_z-of_z_fits c.other.inside.num c.other.invariant.num_fits) c.in_ok-product.ensures (positive-some c.self.inside.den c.self.invariant.positive)
      (λ none. c.if-other-eq0.false (ap (λ z. of_z w128 z) none));
  num_fits = passed-fits _ _ c.in_ok-num.ensures;
  den_fits = passed-fits _ _ c.in_ok-product.ensures;
}

pub returns-clause-value : goal.returns-clause-value
returns-clause-value c =
    let num = passed-formed ◌*ℤ◌ _ _ _ _ _
    (passed-num _ _ _ c.self.invariant c.self.view_is) (passed-den _ _ _ c.other.invariant c.other.view_is) c.in_ok-num.ensures in
    let den = passed-formed ◌*ℤ◌ _ _ _ _ _
    (passed-den _ _ _ c.self.invariant c.self.view_is) (passed-num _ _ _ c.other.invariant c.other.view_is) c.in_ok-product.ensures in
    IsRatio-passed _ _ _ _ c.reduced.result num den c.reduced.ensures.value
