use Rattle.std.proofs.Common.{sym, subst, refl, arith, below_more}
use Rattle.std.proofs.lemmas.List.{length-map}
use Rattle.std.proofs.lemmas.Bool.{false≢true}
use Rattle.fraction.specs.Tables.{SumFits}
use Rattle.fraction.specs.Rows.{lists_of, row_at}
use Rattle.fraction.proofs.Passed.{IsOk-iff_unmet}
use Rattle.fraction.proofs.rows.test_sums.Goals as goal

pub loop-i-preserved : goal.loop-i-preserved
loop-i-preserved c =
    below_more (λ k. SumFits (row_at (lists_of c.args.rows.now) k) c.args.columns.now) c.loop-i.i c.loop-i.invariant
    (subst (λ r. SumFits r c.args.columns.now) c.row_of.ensures (c.in_ok-sum_of.ensures.fits.0 refl))

pub returns-clause-fits : goal.returns-clause-fits
returns-clause-fits c =
    let many = length-map c.args.rows.now (λ row. row.items) in
    (λ ok i lt. c.loop-i.invariant i (omega arith), λ fits. refl)

pub returns-in_err-sum_of-clause-fits : goal.returns-in_err-sum_of-clause-fits
returns-in_err-sum_of-clause-fits c =
    let many = length-map c.args.rows.now (λ row. row.items) in
    IsOk-iff_unmet _ _ c.from_residual.ensures.0
    (λ fits. false≢true (c.in_err-sum_of.ensures.fits.1 (subst (λ r. SumFits r c.args.columns.now) (sym c.row_of.ensures) (fits c.loop-i.i (omega arith)))))
