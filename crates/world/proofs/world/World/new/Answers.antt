use Rattle.std.proofs.Common.{◌≡◌, ℕ, [], map, sym, ap, subst, ◌∙◌}
use Rattle.std.specs.List.{range_with_len}
use Rattle.quorum_set.specs.declared.bridge.Side.TheVariants.{First}
use Rattle.dealer.specs.Plans.{PlanPair, ArePlans}
use Rattle.voter.specs.Steps.{start}
use Rattle.world.specs.Runs as runs
use Rattle.world_state.specs.States.{plans_of}
use Rattle.world_state.specs.Steps.{WorldState}
use Rattle.world.proofs.world.World.new.Goals.{After-new-6}
use Rattle.world.proofs.world.World.new.Goals as goal

-- the world begins with as many voters as its plans have
begun : (c : After-new-6) (n : ℕ) → c.voters.result ≡ n
    → ◌≡◌ {A = WorldState} (record {
      clients = c.in_ok-clients.clients.items;
      voters = c.in_ok-voters.voters.items;
      sent = c.new.result.items;
      draws = c.new-2.result.items;
      draws2 = c.new-3.result.items;
      side = First;
      visible = c.new-4.result.items;
    }) (runs.start n c.args.clients c.args.limit)
begun c n many = λ i. record {
  clients = c.in_ok-clients.ensures i;
  voters = (c.in_ok-voters.ensures ∙ ap (λ n. map (λ v. start v c.args.limit) (range_with_len 0 n)) many) i;
  sent = c.new.ensures.items i;
  draws = c.new-2.ensures.items i;
  draws2 = c.new-3.ensures.items i;
  side = First;
  visible = c.new-4.ensures.items i;
}

pub invariant_of-result : goal.invariant_of-result
invariant_of-result c =
    let at = (goal.at.invariant_of-result c).After-new-6 in
    let are : ArePlans (plans_of c.in_ok-cycles.cycles) = subst (λ (p : PlanPair). ArePlans p) (sym c.in_ok-cycles.ensures.value) c.in_ok-cycles.ensures.plans in
    c.worlds_stay_sound.ensures _ (record {
      plans = are;
      clients = c.args.clients;
      limit = c.args.limit;
      limits = record { few_voters = are.first.coterie.few_voters; few_clients = c.requires.few; some_stamp = c.requires.least; few_stamps = c.requires.most };
      steps = [];
      state = begun at c.in_ok-cycles.cycles.first.system.voters c.voters.ensures;
    })

pub returns : goal.returns
returns c =
    let at = (goal.at.returns c).After-new-6 in
    let is = c.in_ok-cycles.ensures.value in
    λ i. record { plans = is i; state = begun at c.args.plans.first.system.voters (c.voters.ensures ∙ ap (λ (p : PlanPair). p.first.system.voters) is) i }
