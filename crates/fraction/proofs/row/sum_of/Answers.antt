use Rattle.std.proofs.Common.{rules, ◌+◌, ℕ, ℤ, pos, get_or, sym, subst, refl, arith}
use Rattle.std.specs.Prelude.{FitsSigned}
use Rattle.std.specs.Int.{w128}
use Rattle.fraction.specs.Fractions.{Fits}
use Rattle.fraction.proofs.Passed.{IsOk-iff_unmet}
use Rattle.fraction.proofs.SumLemmas.{sum_is, sum_in-step, Fits-sum_in_step}
use Rattle.fraction.proofs.row.sum_of.Goals as goal

pub loop-column-preserved : goal.loop-column-preserved
loop-column-preserved c =
    let i : ℕ = c.loop-column.column-index in
    let x : ℤ = get_or c.args.row.now (get_or c.args.columns.now i 0) (pos 0) in
    let at : FitsSigned w128 x = search rules in
    let step = sum_in-step c.args.row.now c.args.columns.now i _ x _ (omega arith) c.loop-column.invariant.total refl at c.in_ok-total.ensures in
    record { total = step.0; fits = Fits-sum_in_step c.args.row.now c.args.columns.now i c.loop-column.invariant.fits step.1 }

pub returns-clause-fits : goal.returns-clause-fits
returns-clause-fits c = (λ ok k le. c.loop-column.invariant.fits k (omega arith), λ fits. refl)

pub returns-in_err-total-clause-fits : goal.returns-in_err-total-clause-fits
returns-in_err-total-clause-fits c =
    let i : ℕ = c.loop-column.column-index in
    let x : ℤ = get_or c.args.row.now (get_or c.args.columns.now i 0) (pos 0) in
    let at : FitsSigned w128 x = search rules in
    let step = sum_is c.args.row.now c.args.columns.now i _ x (omega arith) c.loop-column.invariant.total refl at in
    IsOk-iff_unmet _ _ c.from_residual.ensures.0 (λ fits. c.in_err-total.ensures.1 (subst Fits (sym step) (fits (i + 1) (omega arith))))
