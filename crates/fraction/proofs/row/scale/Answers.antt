use Rattle.std.proofs.Common.{rules, ◌≡◌, ℕ, ◌<◌, pos, ◌*ℤ◌, to_z, of_z, length, get_or, sym, ap, ◌∙◌, refl, arith}
use Rattle.std.specs.Prelude.{FitsSigned}
use Rattle.std.specs.Int.{w128}
use Rattle.std.proofs.lemmas.Int.{to_z-of_z}
use Rattle.fraction.proofs.RowLemmas.{set-holds_below_next, set-keeps_above, to_z-of_z_product}
use Rattle.fraction.proofs.row.scale.Goals as goal

pub loop-entry-preserved : goal.loop-entry-preserved
loop-entry-preserved c =
    let i : ℕ = c.loop-entry.entry-index in
    let lt : i < length c.loop-entry.row = omega arith in
    let at : FitsSigned w128 (get_or c.loop-entry.row i (pos 0)) = search rules in
    let was = c.loop-entry.invariant.left i (omega arith) in
    let fits = c.requires i (omega arith) in
    let back = sym (ap (λ t. get_or c.args.row.now i (pos 0) *ℤ t) (to_z-of_z w128 c.args.factor c.ranges.factor)) in
    record {
      done = set-holds_below_next (λ k v. v ≡ get_or c.args.row.now k (pos 0) *ℤ to_z w128 (of_z w128 c.args.factor)) _ _ _ lt c.loop-entry.invariant.done
          (to_z-of_z_product _ _ _ _ at c.ranges.factor was refl fits ∙ back);
      left = set-keeps_above _ _ _ _ c.loop-entry.invariant.left;
    }
