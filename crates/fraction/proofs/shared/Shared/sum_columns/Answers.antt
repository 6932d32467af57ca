use Rattle.std.proofs.Common.{ℤ, List, Vec, sym, subst, ap, ◌∙◌, refl}
use Rattle.std.specs.declared.alloc.Global.{Global}
use Rattle.std.proofs.lemmas.Bool.{false≢true}
use Rattle.fraction.specs.Tables.{Table, IsTable, IsSummed}
use Rattle.fraction.specs.Rows.{lists_of, EachRow, AllSumsFit, IsSummedRow}
use Rattle.fraction.proofs.Passed.{IsOk-iff_unmet}
use Rattle.fraction.proofs.SumLemmas.{IsSummed-from_rows, IsTable-summed}
use Rattle.fraction.proofs.RowsLemmas.{with_items-items}
use Rattle.fraction.proofs.shared.Shared.sum_columns.Goals as goal

pub returns-in_err-test_sums-clause-fits : goal.returns-in_err-test_sums-clause-fits
returns-in_err-test_sums-clause-fits c =
    let rows_are = sym (ap (λ (t : Table). t.rows) c.self.view_is) ∙ sym (ap lists_of c.deref.ensures.value) in
    IsOk-iff_unmet _ _ c.from_residual.ensures.0 (λ fits. false≢true (c.in_err-test_sums.ensures.fits.1 (subst (λ rs. AllSumsFit rs c.args.columns.now) rows_are fits)))

pub invariant_of-self : goal.invariant_of-self
invariant_of-self c =
    let new : List (Vec ℤ Global) = c.put_sums.new.rows in
    let rows_are = ap lists_of (with_items-items c.self.inside.rows new _ c.put_sums.auto.rows c.deref_mut.ensures.value) in
    let t : Table = record { rows = lists_of c.self.inside.rows.items; den = c.self.inside.den } in
    let is = subst (λ rs. EachRow (IsSummedRow c.args.columns.now c.args.into) (lists_of rs) (lists_of new)) c.deref_mut.ensures.value c.put_sums.ensures in
    let fits = subst (λ rs. AllSumsFit (lists_of rs) c.args.columns.now) c.deref.ensures.value (c.in_ok-test_sums.ensures.fits.0 refl) in
    subst (λ rs. IsTable (record { rows = rs; den = c.self.inside.den })) (sym rows_are) (IsTable-summed t (lists_of new) c.args.columns.now c.args.into c.self.invariant fits is)

pub returns-clause-value : goal.returns-clause-value
returns-clause-value c =
    let new : List (Vec ℤ Global) = c.put_sums.new.rows in
    let rows_are = ap lists_of (with_items-items c.self.inside.rows new _ c.put_sums.auto.rows c.deref_mut.ensures.value) in
    let t : Table = record { rows = lists_of c.self.inside.rows.items; den = c.self.inside.den } in
    let is = subst (λ rs. EachRow (IsSummedRow c.args.columns.now c.args.into) (lists_of rs) (lists_of new)) c.deref_mut.ensures.value c.put_sums.ensures in
    subst (λ rs. IsSummed c.args.self.now (record { rows = rs; den = c.self.inside.den }) c.args.columns.now c.args.into) (sym rows_are)
    (subst (λ (u : Table). IsSummed u (record { rows = lists_of new; den = c.self.inside.den }) c.args.columns.now c.args.into) c.self.view_is
    (IsSummed-from_rows t (lists_of new) c.args.columns.now c.args.into is))
