use Rattle.world.proofs.Plans.{plans_deal, plans_meet, quorums_of}
use Rattle.progress.proofs.laws.tickets_deal_quorums_that_meet.Goals as goal

pub returns : goal.returns
returns c w r = (
  quorums_of w.plans.first w.plans.second,
  plans_meet c.coteries_meet.ensures c.bridges_meet.ensures w.plans.first r.plans.first w.plans.second r.plans.second,
  plans_deal c.tickets_name_quorums.ensures w.plans.first r.plans.first w.plans.second r.plans.second,
)
