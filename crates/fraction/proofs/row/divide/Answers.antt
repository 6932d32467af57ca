use Rattle.std.proofs.Common.{rules, ◌≡◌, ℕ, ◌<◌, pos, ◌*ℤ◌, length, get_or, ◌∙◌, arith}
use Rattle.std.specs.Prelude.{FitsSigned}
use Rattle.std.specs.Int.{w128}
use Rattle.std.proofs.lemmas.Int.{to_z-of_z}
use Rattle.fraction.proofs.RowLemmas.{set-holds_below_next, set-keeps_above, divided_entry}
use Rattle.fraction.proofs.row.divide.Goals as goal

pub loop-entry-preserved : goal.loop-entry-preserved
loop-entry-preserved c =
    let i : ℕ = c.loop-entry.entry-index in
    let lt : i < length c.loop-entry.row = omega arith in
    let at : FitsSigned w128 (get_or c.loop-entry.row i (pos 0)) = search rules in
    let was = c.loop-entry.invariant.left i (omega arith) in
    record {
      done = set-holds_below_next (λ k v. v *ℤ pos c.args.divisor ≡ get_or c.args.row.now k (pos 0)) _ _ _ lt c.loop-entry.invariant.done
          (divided_entry _ _ _ _ _ _ (to_z-of_z w128 _ at ∙ was) c.signed.ensures c.quotient.ensures c.unsigned_abs.ensures.value (c.requires.divides i (omega arith))
          (record { sfits = c.signed.type_inv }));
      left = set-keeps_above _ _ _ _ c.loop-entry.invariant.left;
    }
