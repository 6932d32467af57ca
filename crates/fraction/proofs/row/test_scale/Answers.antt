use Rattle.std.proofs.Common.{rules, pos, ◌*ℤ◌, get_or, refl, subst, arith, below_more}
use Rattle.std.specs.Prelude.{FitsSigned}
use Rattle.std.specs.Int.{w128}
use Rattle.std.proofs.lemmas.Int.{to_z-of_z}
use Rattle.fraction.specs.Fractions.{Fits}
use Rattle.fraction.proofs.Passed.{Fits-formed, formed-unfit, IsOk-iff_unmet}
use Rattle.fraction.proofs.row.test_scale.Goals as goal

pub returns-in_err-product-clause-fits : goal.returns-in_err-product-clause-fits
returns-in_err-product-clause-fits c =
    let at : FitsSigned w128 (get_or c.args.row.now c.loop-entry.entry-index (pos 0)) = search rules in
    IsOk-iff_unmet _ _ c.from_residual.ensures.0
    (λ fits. formed-unfit ◌*ℤ◌ _ _ _ _ (to_z-of_z w128 _ at) (to_z-of_z w128 c.args.factor c.ranges.factor) c.in_err-product.ensures.1 (fits c.loop-entry.entry-index (omega arith)))

pub loop-entry-preserved : goal.loop-entry-preserved
loop-entry-preserved c =
    let at : FitsSigned w128 (get_or c.args.row.now c.loop-entry.entry-index (pos 0)) = search rules in
    below_more _ _ c.loop-entry.invariant (Fits-formed ◌*ℤ◌ _ _ _ _ (to_z-of_z w128 _ at) refl c.in_ok-product.ensures.1)

pub returns-clause-fits : goal.returns-clause-fits
returns-clause-fits c =
    let row = c.args.row.now in
    (λ ok. λ j lt. subst (λ z. Fits (get_or row j (pos 0) *ℤ z)) (to_z-of_z w128 c.args.factor c.ranges.factor) (c.loop-entry.invariant j (omega arith)), λ met. refl)
