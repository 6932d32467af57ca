use Rattle.std.proofs.Common.{ℕ, ◌<◌, length, sym, subst, arith}
use Rattle.std.proofs.lemmas.List.{length-map}
use Rattle.fraction.specs.Tables.{SumFits}
use Rattle.fraction.specs.Rows.{lists_of, IsSummedRow}
use Rattle.fraction.proofs.RowsLemmas.{row_at-was, row_at-written, row_at-kept}
use Rattle.fraction.proofs.rows.put_sums.Goals as goal

pub put_sum-requires-clause-into : goal.put_sum-requires-clause-into
put_sum-requires-clause-into c =
    let i : ℕ = c.loop-row.row-index in
    let was = row_at-was c.loop-row.rows (lists_of c.args.rows.now) i _ _ (omega arith) c.deref_mut.ensures.value c.loop-row.invariant.left in
    let many = length-map c.args.rows.now (λ row. row.items) in
    subst (λ r. c.args.into < length r) (sym was) (c.requires.into i (omega arith))

pub put_sum-requires-clause-fits : goal.put_sum-requires-clause-fits
put_sum-requires-clause-fits c =
    let i : ℕ = c.loop-row.row-index in
    let was = row_at-was c.loop-row.rows (lists_of c.args.rows.now) i _ _ (omega arith) c.deref_mut.ensures.value c.loop-row.invariant.left in
    let many = length-map c.args.rows.now (λ row. row.items) in
    subst (λ r. SumFits r c.args.columns.now) (sym was) (c.requires.fits i (omega arith))

pub loop-row-preserved : goal.loop-row-preserved
loop-row-preserved c = record {
  done = row_at-written (IsSummedRow c.args.columns.now c.args.into) (lists_of c.args.rows.now) c.loop-row.rows c.loop-row.row-index _ _ _ (omega arith) c.deref_mut.ensures.value
      c.loop-row.invariant.left c.loop-row.invariant.done c.put_sum.ensures.0 c.put_sum.ensures;
  left = row_at-kept _ _ _ _ c.loop-row.invariant.left;
}
