use Rattle.certificate.proofs.FaultLaws.{IsCertificate-weights_fault, weights_fault-IsCertificate}
use Rattle.certificate.proofs.laws.certificates_have_no_fault.Goals as goal

pub returns : goal.returns
returns c = λ w coterie capacities. (IsCertificate-weights_fault w coterie capacities, weights_fault-IsCertificate w)
