use Rattle.std.proofs.Common.{◌<◌, ◌≤◌, ◌^◌, ◌↔◌, ◌*ℤ◌, to_z, of_z, unsigned_abs, length, sym, subst, refl, arith, IsOk}
use Rattle.std.specs.Int.{w128}
use Rattle.std.proofs.lemmas.Int.{to_z-of_z}
use Rattle.std.proofs.lemmas.List.{length-map}
use Rattle.std.proofs.lemmas.Bool.{false≢true}
use Rattle.fraction.specs.Fractions.{Fits}
use Rattle.fraction.specs.Rows.{lists_of, row_at, entry_of, EachFits, OthersFit}
use Rattle.fraction.proofs.Passed.{Fits-formed, formed-unfit, IsOk-iff_unmet}
use Rattle.fraction.proofs.RowLemmas.{passed-entry}
use Rattle.fraction.proofs.PivotLemmas.{PivotFits-from_parts, OthersFit-PivotFits}
use Rattle.fraction.proofs.SmallLemmas.{PivotFits-small}
use Rattle.fraction.proofs.rows.test_pivot.Goals as goal

pub returns-then-are_small-clause-fits : goal.returns-then-are_small-clause-fits
returns-then-are_small-clause-fits c =
    let many = length-map c.args.rows.now (λ row. row.items) in
    let small = PivotFits-small (lists_of c.args.rows.now) c.args.den c.args.row c.args.column
    (subst (λ z. unsigned_abs z ≤ 2 ^ 62) (to_z-of_z w128 c.args.den c.ranges.den) (c.is_small_number.ensures c.if-is_small_number.true)) (c.are_small.ensures c.if-are_small.true)
    (omega arith) c.requires.level c.requires.column in
    (λ ok. small, λ fits. refl)

pub returns-in_err-test_scale-clause-fits : goal.returns-in_err-test_scale-clause-fits
returns-in_err-test_scale-clause-fits c =
    let many = length-map c.args.rows.now (λ row. row.items) in
    let inside : c.args.row < length (lists_of c.args.rows.now) = omega arith in
    IsOk-iff_unmet _ _ c.from_residual-in_err-test_scale.ensures.0
    (λ fits. false≢true (c.in_err-test_scale.ensures.fits.1 (subst (λ d. EachFits c.row_of-pivot_row.result.now d) (sym (to_z-of_z w128 c.args.den c.ranges.den))
    (subst (λ r. EachFits r c.args.den) (sym c.row_of-pivot_row.ensures) (λ j within. fits.pivot_row j (inside, within))))))

pub returns-clause-fits : goal.returns-clause-fits
returns-clause-fits c =
    let L = lists_of c.args.rows.now in
    let passed = passed-entry c.entry-entry.result _ _ c.args.column (record { sfits = c.entry-entry.type_inv }) c.entry-entry.ensures c.row_of-pivot_row.ensures in
    let at : Fits (c.args.den *ℤ entry_of (row_at L c.args.row) c.args.column) = Fits-formed ◌*ℤ◌ _ _ _ _ (to_z-of_z w128 c.args.den c.ranges.den) passed c.in_ok-product.ensures.1 in
    let own : EachFits (row_at L c.args.row) c.args.den = subst (λ d. EachFits (row_at L c.args.row) d) (to_z-of_z w128 c.args.den c.ranges.den)
    (subst (λ r. EachFits r (to_z w128 (of_z w128 c.args.den))) c.row_of-pivot_row.ensures (c.in_ok-test_scale.ensures.fits.0 refl)) in
    let others = subst (λ s. IsOk c.test_others.result ↔ OthersFit L s c.args.row c.args.column) passed c.test_others.ensures.fits in
    (λ ok. PivotFits-from_parts L c.args.den c.args.row c.args.column at own (others.0 ok), λ fits. others.1 (OthersFit-PivotFits L c.args.den c.args.row c.args.column fits))

pub returns-in_err-product-clause-fits : goal.returns-in_err-product-clause-fits
returns-in_err-product-clause-fits c =
    let passed = passed-entry c.entry-entry.result _ _ c.args.column (record { sfits = c.entry-entry.type_inv }) c.entry-entry.ensures c.row_of-pivot_row.ensures in
    IsOk-iff_unmet _ _ c.from_residual.ensures.0 (λ fits. formed-unfit ◌*ℤ◌ _ _ _ _ (to_z-of_z w128 c.args.den c.ranges.den) passed c.in_err-product.ensures.1 fits.den)
