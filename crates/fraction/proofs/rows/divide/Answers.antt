use Rattle.std.proofs.Common.{ℕ, ◌<◌, unsigned_abs, length, sym, subst, arith}
use Rattle.std.specs.Int.{◌∣◌}
use Rattle.std.proofs.lemmas.List.{length-map}
use Rattle.fraction.specs.Fractions.{Fits}
use Rattle.fraction.specs.Rows.{lists_of, entry_of, IsDivided}
use Rattle.fraction.proofs.RowsLemmas.{row_at-was, row_at-written, row_at-kept}
use Rattle.fraction.proofs.rows.divide.Goals as goal

pub divide-requires : goal.divide-requires
divide-requires c =
    let i : ℕ = c.loop-row.row-index in
    let was = row_at-was c.loop-row.rows (lists_of c.args.rows.now) i _ _ (omega arith) c.deref_mut.ensures.value c.loop-row.invariant.left in
    let many = length-map c.args.rows.now (λ row. row.items) in
    record {
      some = c.requires.some;
      fits = subst (λ r. (j : ℕ) → j < length r → Fits (entry_of r j)) (sym was) (λ j lt. (c.requires.divides i j (omega arith) lt).0);
      divides = subst (λ r. (j : ℕ) → j < length r → c.args.divisor ∣ unsigned_abs (entry_of r j)) (sym was) (λ j lt. (c.requires.divides i j (omega arith) lt).1);
    }

pub loop-row-preserved : goal.loop-row-preserved
loop-row-preserved c = record {
  done = row_at-written (IsDivided c.args.divisor) (lists_of c.args.rows.now) c.loop-row.rows c.loop-row.row-index _ _ _ (omega arith) c.deref_mut.ensures.value
      c.loop-row.invariant.left c.loop-row.invariant.done c.divide.auto.row (c.divide.auto.row, c.divide.ensures);
  left = row_at-kept _ _ _ _ c.loop-row.invariant.left;
}
