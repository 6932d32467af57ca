use Rattle.std.proofs.Common.{sym, subst}
use Rattle.std.specs.List.{All}
use Rattle.robust.specs.Robust.{IsPlanned}
use Rattle.robust.proofs.search.failures_of.Goals as goal
use Rattle.robust.proofs.search.failures_of.Goals.{then-eq+in_ok-push_pairs, else-eq}

pub loop-number-preserved : goal.loop-number-preserved
loop-number-preserved c =
    let alone = c.in_ok-push_failure.ensures c.loop-number.invariant in
    elim c.if-eq.branch as (λ _. All (IsPlanned c.args.coterie.now c.args.capacities.now) c.if-eq.failures.items) [
      | then-eq+in_ok-push_pairs w ↦ subst (λ v. All (IsPlanned c.args.coterie.now c.args.capacities.now) v.items) (sym w.failures-is) (w.in_ok-push_pairs.ensures alone)
      | else-eq w ↦ subst (λ v. All (IsPlanned c.args.coterie.now c.args.capacities.now) v.items) (sym w.failures-is) alone
    ]
