use Rattle.std.proofs.Common.{rules, ◌≡◌, ℕ, ◌<◌, pos, to_z, of_z, length, get_or, sym, ap, ◌∙◌, refl, arith}
use Rattle.std.specs.Prelude.{FitsSigned}
use Rattle.std.specs.Int.{w128}
use Rattle.std.proofs.lemmas.Int.{to_z-of_z}
use Rattle.fraction.specs.Rows.{combine_entry}
use Rattle.fraction.proofs.RowLemmas.{set-holds_below_next, set-keeps_above, to_z-of_z_product, to_z-of_z_difference, FitsSigned-product, FitsSigned-difference}
use Rattle.fraction.proofs.row.combine.Goals as goal

pub overflow_sub-entry : goal.overflow_sub-entry
overflow_sub-entry c =
    let j : ℕ = c.loop-j.j in
    let at : FitsSigned w128 (get_or c.loop-j.row j (pos 0)) = search rules in
    let other : FitsSigned w128 (get_or c.args.pivot_row.now j (pos 0)) = search rules in
    let was = c.loop-j.invariant.left j (omega arith) in
    let fits = c.requires.fits j (omega arith) in
    FitsSigned-difference _ _ _ _ (to_z-of_z_product _ _ _ _ at c.ranges.scale was refl fits.0) (to_z-of_z_product _ _ _ _ c.ranges.taken other refl refl fits.1) fits.2

pub loop-j-preserved : goal.loop-j-preserved
loop-j-preserved c =
    let j : ℕ = c.loop-j.j in
    let lt : j < length c.loop-j.row = omega arith in
    let at : FitsSigned w128 (get_or c.loop-j.row j (pos 0)) = search rules in
    let other : FitsSigned w128 (get_or c.args.pivot_row.now j (pos 0)) = search rules in
    let was = c.loop-j.invariant.left j (omega arith) in
    let fits = c.requires.fits j (omega arith) in
    let back = sym (ap (λ t. combine_entry c.args.row.now t c.args.pivot_row.now (to_z w128 (of_z w128 c.args.taken)) j) (to_z-of_z w128 c.args.scale c.ranges.scale)
    ∙ ap (λ t. combine_entry c.args.row.now c.args.scale c.args.pivot_row.now t j) (to_z-of_z w128 c.args.taken c.ranges.taken)) in
    record {
      done = set-holds_below_next (λ k v. v ≡ combine_entry c.args.row.now (to_z w128 (of_z w128 c.args.scale)) c.args.pivot_row.now (to_z w128 (of_z w128 c.args.taken)) k) _ _ _ lt c.loop-j.invariant.done
          (to_z-of_z_difference _ _ _ _ (to_z-of_z_product _ _ _ _ at c.ranges.scale was refl fits.0) (to_z-of_z_product _ _ _ _ c.ranges.taken other refl refl fits.1) fits.2 ∙ back);
      left = set-keeps_above _ _ _ _ c.loop-j.invariant.left;
    }

pub overflow_mul-entry : goal.overflow_mul-entry
overflow_mul-entry c =
    let j : ℕ = c.loop-j.j in
    let at : FitsSigned w128 (get_or c.loop-j.row j (pos 0)) = search rules in
    let fits = c.requires.fits j (omega arith) in
    FitsSigned-product _ _ _ _ at c.ranges.scale (c.loop-j.invariant.left j (omega arith)) refl fits.0

pub returns : goal.returns
returns c = λ j lt.
    let row = c.args.row.now in
    let other = c.args.pivot_row.now in
    c.loop-j.invariant.done j (omega arith) ∙ ap (λ s. combine_entry row s other (to_z w128 (of_z w128 c.args.taken)) j) (to_z-of_z w128 c.args.scale c.ranges.scale)
    ∙ ap (λ t. combine_entry row c.args.scale other t j) (to_z-of_z w128 c.args.taken c.ranges.taken)
