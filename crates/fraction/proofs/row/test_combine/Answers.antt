use Rattle.std.proofs.Common.{rules, pos, ◌-ℤ◌, ◌*ℤ◌, to_z, of_z, get_or, refl, subst, arith, below_more}
use Rattle.std.specs.Prelude.{FitsSigned}
use Rattle.std.specs.Int.{w128}
use Rattle.std.proofs.lemmas.Int.{to_z-of_z}
use Rattle.fraction.specs.Rows.{CombineFits}
use Rattle.fraction.proofs.Passed.{passed-formed, Fits-formed, formed-unfit, IsOk-iff_unmet}
use Rattle.fraction.proofs.row.test_combine.Goals as goal

pub returns-in_err-product-2-clause-fits : goal.returns-in_err-product-2-clause-fits
returns-in_err-product-2-clause-fits c =
    let other : FitsSigned w128 (get_or c.args.pivot_row.now c.loop-j.j (pos 0)) = search rules in
    IsOk-iff_unmet _ _ c.from_residual-in_err-product-2.ensures.0
    (λ fits. formed-unfit ◌*ℤ◌ _ _ _ _ (to_z-of_z w128 c.args.taken c.ranges.taken) (to_z-of_z w128 _ other) c.in_err-product-2.ensures.1 (fits c.loop-j.j (omega arith)).1)

pub returns-in_err-difference-clause-fits : goal.returns-in_err-difference-clause-fits
returns-in_err-difference-clause-fits c =
    let at : FitsSigned w128 (get_or c.args.row.now c.loop-j.j (pos 0)) = search rules in
    let other : FitsSigned w128 (get_or c.args.pivot_row.now c.loop-j.j (pos 0)) = search rules in
    let left = passed-formed ◌*ℤ◌ _ _ _ _ _ (to_z-of_z w128 _ at) (to_z-of_z w128 _ c.ranges.scale) c.in_ok-product.ensures in
    let right = passed-formed ◌*ℤ◌ _ _ _ _ _ (to_z-of_z w128 _ c.ranges.taken) (to_z-of_z w128 _ other) c.in_ok-product-2.ensures in
    IsOk-iff_unmet _ _ c.from_residual-in_err-difference.ensures.0
    (λ fits. formed-unfit ◌-ℤ◌ _ _ _ _ left right c.in_err-difference.ensures.1 (fits c.loop-j.j (omega arith)).2)

pub loop-j-preserved : goal.loop-j-preserved
loop-j-preserved c =
    let at : FitsSigned w128 (get_or c.args.row.now c.loop-j.j (pos 0)) = search rules in
    let other : FitsSigned w128 (get_or c.args.pivot_row.now c.loop-j.j (pos 0)) = search rules in
    let seen = to_z-of_z w128 _ at in
    let seen_other = to_z-of_z w128 _ other in
    let left = passed-formed ◌*ℤ◌ _ _ _ _ _ seen refl c.in_ok-product.ensures in
    let right = passed-formed ◌*ℤ◌ _ _ _ _ _ refl seen_other c.in_ok-product-2.ensures in
    below_more _ _ c.loop-j.invariant (
      Fits-formed ◌*ℤ◌ _ _ _ _ seen refl c.in_ok-product.ensures.1,
      Fits-formed ◌*ℤ◌ _ _ _ _ refl seen_other c.in_ok-product-2.ensures.1,
      Fits-formed ◌-ℤ◌ _ _ _ _ left right c.in_ok-difference.ensures.1,
    )

pub returns-in_err-product-clause-fits : goal.returns-in_err-product-clause-fits
returns-in_err-product-clause-fits c =
    let at : FitsSigned w128 (get_or c.args.row.now c.loop-j.j (pos 0)) = search rules in
    IsOk-iff_unmet _ _ c.from_residual.ensures.0
    (λ fits. formed-unfit ◌*ℤ◌ _ _ _ _ (to_z-of_z w128 _ at) (to_z-of_z w128 c.args.scale c.ranges.scale) c.in_err-product.ensures.1 (fits c.loop-j.j (omega arith)).0)

pub returns-clause-fits : goal.returns-clause-fits
returns-clause-fits c =
    let row = c.args.row.now in
    let other = c.args.pivot_row.now in
    let fits : CombineFits row c.args.scale other c.args.taken = subst (λ s. CombineFits row s other c.args.taken) (to_z-of_z w128 c.args.scale c.ranges.scale)
    (subst (λ t. CombineFits row (to_z w128 (of_z w128 c.args.scale)) other t) (to_z-of_z w128 c.args.taken c.ranges.taken) (λ j lt. c.loop-j.invariant j (omega arith))) in
    (λ ok. fits, λ met. refl)
