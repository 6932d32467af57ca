use Rattle.std.proofs.Common.{◌≢◌, to_z, of_z, sym, subst, refl, arith, below_more}
use Rattle.std.specs.Int.{w128}
use Rattle.std.proofs.lemmas.Int.{to_z-of_z}
use Rattle.std.proofs.lemmas.List.{length-map}
use Rattle.std.proofs.lemmas.Bool.{false≢true}
use Rattle.fraction.specs.Rows.{lists_of, row_at, EliminateFits}
use Rattle.fraction.proofs.Passed.{IsOk-iff_unmet}
use Rattle.fraction.proofs.PivotLemmas.{EliminateFits-as}
use Rattle.fraction.proofs.rows.test_others.Goals as goal
use Rattle.fraction.proofs.rows.test_others.Goals.{then-i-row+in_ok-test_eliminate, else-i-row}

pub returns-in_err-test_eliminate-clause-fits : goal.returns-in_err-test_eliminate-clause-fits
returns-in_err-test_eliminate-clause-fits c =
    let many = length-map c.args.rows.now (λ row. row.items) in
    IsOk-iff_unmet _ _ c.from_residual.ensures.0
    (λ fits. false≢true (c.in_err-test_eliminate.ensures.fits.1 (EliminateFits-as _ _ _ _ _ _ c.args.column (sym c.row_of.ensures) (sym c.row_of-then-i-row.ensures)
    (sym (to_z-of_z w128 c.args.scale c.ranges.scale)) (fits c.loop-i.i (omega arith) c.if-i-row.true))))

pub loop-i-preserved : goal.loop-i-preserved
loop-i-preserved c =
    below_more (λ k. k ≢ c.args.row → EliminateFits (row_at (lists_of c.args.rows.now) k) (to_z w128 (of_z w128 c.args.scale)) (row_at (lists_of c.args.rows.now) c.args.row) c.args.column)
    c.loop-i.i c.loop-i.invariant
    (λ ne. elim c.if-i-row.branch [
      | then-i-row+in_ok-test_eliminate w ↦ EliminateFits-as _ _ _ _ _ _ c.args.column w.row_of.ensures w.row_of-then-i-row.ensures refl (w.in_ok-test_eliminate.ensures.fits.0 refl)
      | else-i-row w ↦ absurd (ne w.if-i-row.false)
    ])

pub returns-clause-fits : goal.returns-clause-fits
returns-clause-fits c =
    let L = lists_of c.args.rows.now in
    let many = length-map c.args.rows.now (λ row. row.items) in (
      λ ok i lt ne. subst (λ s. EliminateFits (row_at L i) s (row_at L c.args.row) c.args.column) (to_z-of_z w128 c.args.scale c.ranges.scale) (c.loop-i.invariant i (omega arith) ne),
      λ fits. refl,
    )
