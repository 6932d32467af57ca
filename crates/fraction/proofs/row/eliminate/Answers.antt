use Rattle.std.proofs.Common.{rules, pos, to_z, of_z, get_or, sym, subst, ap, ◌∙◌}
use Rattle.std.specs.Prelude.{FitsSigned}
use Rattle.std.specs.Int.{w128}
use Rattle.std.proofs.lemmas.Int.{to_z-of_z}
use Rattle.fraction.specs.Rows.{CombineFits, combine_entry}
use Rattle.fraction.proofs.row.eliminate.Goals as goal

pub combine-requires-clause-fits : goal.combine-requires-clause-fits
combine-requires-clause-fits c =
    let row = c.args.row.now in
    let other = c.args.pivot_row.now in
    let taken : FitsSigned w128 (get_or row c.args.column (pos 0)) = search rules in
    subst (λ s. CombineFits row s other (to_z w128 (of_z w128 (get_or row c.args.column (pos 0))))) (sym (to_z-of_z w128 c.args.scale c.ranges.scale))
    (subst (λ t. CombineFits row c.args.scale other t) (sym (to_z-of_z w128 _ taken)) c.requires.fits)

pub returns : goal.returns
returns c =
    let row = c.args.row.now in
    let other = c.args.pivot_row.now in
    let taken : FitsSigned w128 (get_or row c.args.column (pos 0)) = search rules in (
      c.combine.auto.row,
      λ j lt. c.combine.ensures j lt ∙ ap (λ s. combine_entry row s other (to_z w128 (of_z w128 (get_or row c.args.column (pos 0)))) j) (to_z-of_z w128 c.args.scale c.ranges.scale)
          ∙ ap (λ t. combine_entry row c.args.scale other t j) (to_z-of_z w128 _ taken),
    )
