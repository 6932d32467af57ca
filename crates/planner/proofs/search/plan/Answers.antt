use Rattle.planner.proofs.Divisors.{HaveNoCommonDivisor-all_ones}
use Rattle.planner.proofs.search.plan.Goals as goal

pub returns-in-Ok-clause-lowest : goal.returns-in-Ok-clause-lowest
returns-in-Ok-clause-lowest c = HaveNoCommonDivisor-all_ones c.args.coterie.now c.args.capacities.now c.in-Ok.plan c.in-Ok.ensures.ones c.in-Ok.ensures.certificate
