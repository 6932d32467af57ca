use Rattle.std.proofs.Common.{rules}
use Rattle.certificate.specs.Certificates.{IsCertificate}
use Rattle.certificate.proofs.Optimal.{IsOptimal-certificate}
use Rattle.certificate.proofs.UnitCapacities.{IsUnitOptimal-IsOptimal}
use Rattle.certificate.proofs.plan.Plan.busiest.Goals as goal

pub returns-clause-least : goal.returns-clause-least
returns-clause-least c = λ unit.
    let certificate : IsCertificate c.args.self.now = search rules in
    IsUnitOptimal-IsOptimal c.args.self.now certificate.capacities.one_each unit (IsOptimal-certificate c.args.self.now certificate)
