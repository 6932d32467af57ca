use Rattle.std.proofs.Common.{rules}
use Rattle.certificate.specs.Certificates.{IsCertificate}
use Rattle.certificate.proofs.BoundLemmas.{bound_of-certificate}
use Rattle.certificate.proofs.plan.Plan.weights.Goals as goal

pub returns-clause-load : goal.returns-clause-load
returns-clause-load c = let certificate : IsCertificate c.args.self.now = search rules in bound_of-certificate c.args.self.now certificate
