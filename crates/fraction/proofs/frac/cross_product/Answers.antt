use Rattle.std.proofs.Common.{◌*ℤ◌, subst, ap₂}
use Rattle.fraction.specs.Fractions.{Checks}
use Rattle.fraction.proofs.Passed.{passed-num, passed-den}
use Rattle.fraction.proofs.frac.cross_product.Goals as goal

pub returns : goal.returns
returns c =
    let num = passed-num _ _ _ c.left.invariant c.left.view_is in
    let den = passed-den _ _ _ c.right.invariant c.right.view_is in
    subst (λ z. Checks z c.product.result) (ap₂ (λ x y. x *ℤ y) num den) c.product.ensures
