use Rattle.std.proofs.Common.{rules, ◌≡◌, sym, ap, subst}
use Rattle.dealer.specs.Plans.{ArePlans}
use Rattle.incidents.specs.Fit.{IsFit}
use Rattle.world.specs.SavedWorlds.{IsSavedWorld, PlannedSaved, begin_by}
use Rattle.world.specs.States.{saved_of}
use Rattle.incidents.proofs.incident_world.IncidentWorld.new.Goals as goal

pub invariant_of-result : goal.invariant_of-result
invariant_of-result c =
    let world = c.in_ok-world.world in
    let parts = c.into_parts-cycles.ensures in
    let made : world ≡ record { plans = c.args.plans; saved = begin_by c.args.plans c.args.clients c.args.limit } = search rules in
    let plans : ArePlans c.args.plans = subst (λ (w : PlannedSaved). ArePlans w.plans) made parts.kept.plans in
    let fit = c.worlds_stay_fit.ensures.first c.args.plans c.args.clients c.args.limit plans
    (record { few_voters = plans.first.coterie.few_voters; few_clients = c.requires.few; some_stamp = c.requires.least; few_stamps = c.requires.most }) in
    let begun : IsFit world = subst (λ (w : PlannedSaved). IsFit w) (sym made) fit in
    subst (λ p. IsFit (record { plans = p; saved = saved_of c.into_parts-cycles.result.1 })) (sym parts.plans)
    (subst (λ s. IsFit (record { plans = world.plans; saved = s })) (sym parts.stored) begun)
