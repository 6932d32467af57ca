use Rattle.std.proofs.Common.{◌*ℤ◌, sym, subst, refl}
use Rattle.fraction.specs.Fractions.{Fits}
use Rattle.fraction.proofs.Lowest.{positive-some}
use Rattle.fraction.proofs.Passed.{to_z-of_z_fits, passed-fits, passed-den, passed-formed, passed_product-some, IsRatio-passed, Fits-formed, formed-unfit, IsOk-iff_unmet}
use Rattle.fraction.proofs.frac.over_product.Goals as goal

pub returns-in_err-product-clause-fits : goal.returns-in_err-product-clause-fits
returns-in_err-product-clause-fits c =
    let left = passed-den _ _ _ c.left.invariant c.left.view_is in
    let right = passed-den _ _ _ c.right.invariant c.right.view_is in
    IsOk-iff_unmet _ _ c.from_residual.ensures.0 (formed-unfit ◌*ℤ◌ _ _ _ _ left right c.in_err-product.ensures.1)

pub reduced-requires : goal.reduced-requires
reduced-requires c = record {
  divisor = passed_product-some _ _ _ _ _ (to_z-of_z_fits _ c.left.invariant.den_fits) (to_z-of_z_fits _ c.right.invariant.den_fits) c.in_ok-product.ensures
      (positive-some _ c.left.invariant.positive) (positive-some _ c.right.invariant.positive);
  num_fits = subst Fits (sym (to_z-of_z_fits c.args.num c.requires)) c.requires;
  den_fits = passed-fits _ _ c.in_ok-product.ensures;
}

pub returns-clause-value : goal.returns-clause-value
returns-clause-value c =
    let left = passed-den _ _ _ c.left.invariant c.left.view_is in
    let right = passed-den _ _ _ c.right.invariant c.right.view_is in
    IsRatio-passed _ _ _ _ c.reduced.result (to_z-of_z_fits c.args.num c.requires) (passed-formed ◌*ℤ◌ _ _ _ _ _ left right c.in_ok-product.ensures) c.reduced.ensures.value

pub returns-clause-fits : goal.returns-clause-fits
returns-clause-fits c =
    let left = passed-den _ _ _ c.left.invariant c.left.view_is in
    let right = passed-den _ _ _ c.right.invariant c.right.view_is in
    (λ ok. Fits-formed ◌*ℤ◌ _ _ _ _ left right c.in_ok-product.ensures.1, λ met. refl)
