use Rattle.std.proofs.Common.{◌≡◌, ◌↔◌, true, subst, arith}
use Rattle.certificate.specs.Certificates.{IsCertificate}
use Rattle.certificate.proofs.FaultLaws.{balanced-IsCertificate}
use Rattle.certificate.proofs.RatioLemmas.{stored-small}
use Rattle.certificate.proofs.weights.Weights.is_balanced.Goals as goal

pub are_balanced-requires : goal.are_balanced-requires
are_balanced-requires c =
    let own = c.self.invariant in
    record { fits = omega (arith, stored-small _ own.0 c.self.inside.sums own.1) }

pub returns : goal.returns
returns c =
    let own = c.self.invariant in
    subst (λ w. (c.are_balanced.result ≡ true) ↔ IsCertificate w) c.self.view_is
    (balanced-IsCertificate _ c.self.inside.sums own.0 own.1 c.are_balanced.result c.are_balanced.ensures)
