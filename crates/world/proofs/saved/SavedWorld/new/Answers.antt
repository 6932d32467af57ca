use Rattle.std.proofs.Common.{◌≡◌, length, sym, ap, subst, ◌∙◌}
use Rattle.dealer.specs.Plans.{PlanPair, ArePlans}
use Rattle.world.specs.SavedWorlds.{IsSavedWorld, PlannedSaved, begin_by}
use Rattle.world_state.specs.States.{contents_of, plans_of}
use Rattle.world_state.specs.Steps.{Planned, WorldState}
use Rattle.world.proofs.SavedWorlds.{begin_by-new}
use Rattle.world.proofs.saved.SavedWorld.new.Goals.{After-into_parts-cycles}
use Rattle.world.proofs.saved.SavedWorld.new.Goals as goal

-- the new world of these plans
begun : (c : After-into_parts-cycles)
    → ◌≡◌ {A = PlannedSaved} (record {
      plans = plans_of c.into_parts-cycles.result.0;
      saved = record { live = contents_of c.into_parts-cycles.result.1; clients = c.in_ok-saved_clients.saved_clients.items; voters = c.in_ok-saved_voters.saved_voters.items };
    }) (record { plans = c.args.plans; saved = begin_by c.args.plans c.args.clients c.args.limit })
begun c =
    let is = c.in_ok-world.ensures in
    let live = c.into_parts-cycles.ensures.state ∙ ap (λ (p : Planned). p.state) is in
    let count = c.from.ensures ∙ c.voters.ensures.value ∙ ap (λ (u : WorldState). length u.voters) (sym c.into_parts-cycles.ensures.state) in
    let plans = c.into_parts-cycles.ensures.plans ∙ ap (λ (p : Planned). p.plans) is in
    let saved = begin_by-new c.args.plans c.args.clients c.args.limit c.from.result (contents_of c.into_parts-cycles.result.1) c.in_ok-saved_clients.saved_clients.items
    c.in_ok-saved_voters.saved_voters.items live count c.in_ok-saved_clients.ensures c.in_ok-saved_voters.ensures in
    λ i. record { plans = plans i; saved = saved i }

pub invariant_of-result : goal.invariant_of-result
invariant_of-result c =
    let at = (goal.at.invariant_of-result c).After-into_parts-cycles in
    let same = ap (λ (p : Planned). p.plans) c.in_ok-world.ensures in
    let reached = c.into_parts-cycles.ensures.reached in
    let are : ArePlans c.args.plans = subst (λ (p : PlanPair). ArePlans p) same reached.plans in
    subst (λ (w : PlannedSaved). IsSavedWorld w) (sym (begun at))
    (c.saved_worlds_stay_sound.ensures.first c.args.plans c.args.clients c.args.limit are
    (record { few_voters = are.first.coterie.few_voters; few_clients = c.requires.few; some_stamp = c.requires.least; few_stamps = c.requires.most }))

pub returns : goal.returns
returns c = begun (goal.at.returns c).After-into_parts-cycles
