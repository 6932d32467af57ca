use Rattle.std.proofs.Common.{rules}
use Rattle.certificate.specs.Certificates.{IsCertificate}
use Rattle.certificate.proofs.Optimal.{IsOptimal-certificate}
use Rattle.certificate.proofs.plan.Plan.ratio.Goals as goal

pub returns-clause-optimal : goal.returns-clause-optimal
returns-clause-optimal c = let certificate : IsCertificate c.args.self.now = search rules in IsOptimal-certificate c.args.self.now certificate
