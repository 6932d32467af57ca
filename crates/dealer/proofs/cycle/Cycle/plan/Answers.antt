use Rattle.std.proofs.Common.{subst}
use Rattle.certificate.specs.Certificates.{IsOptimal}
use Rattle.dealer.proofs.cycle.Cycle.plan.Goals as goal

pub returns-clause-optimal : goal.returns-clause-optimal
returns-clause-optimal c = subst IsOptimal c.self.view_is c.self.invariant.optimal
