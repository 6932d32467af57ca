use Rattle.std.proofs.Common.{rules, ◌≡◌, ◌∙◌}
use Rattle.certificate.specs.Certificates.{IsCertificate, load_of}
use Rattle.certificate.proofs.Optimal.{IsOptimal-certificate}
use Rattle.certificate.proofs.UnitCapacities.{IsUnitOptimal-IsOptimal, load_of-are_unit}
use Rattle.certificate.proofs.plan.Plan.load.Goals as goal

pub returns-clause-optimal : goal.returns-clause-optimal
returns-clause-optimal c = let certificate : IsCertificate c.args.self.now = search rules in IsOptimal-certificate c.args.self.now certificate

pub returns-clause-least : goal.returns-clause-least
returns-clause-least c = λ unit.
    let certificate : IsCertificate c.args.self.now = search rules in
    let is : c.load.result ≡ load_of c.args.self.now = search rules in
    let one_each = certificate.capacities.one_each in (
      is ∙ load_of-are_unit c.args.self.now one_each unit,
      IsUnitOptimal-IsOptimal c.args.self.now one_each unit (IsOptimal-certificate c.args.self.now certificate),
    )
