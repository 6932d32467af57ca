use Rattle.std.proofs.Common.{ℕ, ◌<◌, to_z, of_z, length, sym, subst, ap, ◌∙◌, arith}
use Rattle.std.specs.Int.{w128}
use Rattle.std.proofs.lemmas.Int.{to_z-of_z}
use Rattle.std.proofs.lemmas.List.{length-map}
use Rattle.fraction.specs.Rows.{lists_of, EliminateFits, IsEliminated}
use Rattle.fraction.proofs.RowsLemmas.{row_at-was, row_at-written, row_at-kept}
use Rattle.fraction.proofs.rows.eliminate_each.Goals as goal

pub eliminate-requires : goal.eliminate-requires
eliminate-requires c =
    let i : ℕ = c.loop-row.row-index in
    let was = row_at-was c.loop-row.rows (lists_of c.args.rows.now) i _ _ (omega arith) c.deref_mut.ensures.value c.loop-row.invariant.left in
    let many = length-map c.args.rows.now (λ row. row.items) in
    let fits = c.requires i (omega arith) in
    record {
      lengths = ap length was ∙ fits.0;
      column = subst (λ n. c.args.column < n) (sym (ap length was ∙ fits.0)) fits.1;
      fits = subst (λ s. EliminateFits c.deref_mut.result.now s c.args.pivot_row.now c.args.column) (sym (to_z-of_z w128 c.args.scale c.ranges.scale))
          (subst (λ r. EliminateFits r c.args.scale c.args.pivot_row.now c.args.column) (sym was) fits.2);
    }

pub loop-row-preserved : goal.loop-row-preserved
loop-row-preserved c = record {
  done = row_at-written (λ old new. IsEliminated old new (to_z w128 (of_z w128 c.args.scale)) c.args.pivot_row.now c.args.column) (lists_of c.args.rows.now) c.loop-row.rows
      c.loop-row.row-index _ _ _ (omega arith) c.deref_mut.ensures.value c.loop-row.invariant.left c.loop-row.invariant.done c.eliminate.ensures.0 c.eliminate.ensures;
  left = row_at-kept _ _ _ _ c.loop-row.invariant.left;
}
