use Rattle.std.proofs.Common.{refl, sym, ap, arith, ◌∙◌, Some}
use Rattle.certificate.specs.Certificates.{with_weights}
use Rattle.certificate.proofs.FaultLaws.{weights_fault-unbalanced}
use Rattle.certificate.proofs.RatioLemmas.{stored-small}
use Rattle.certificate.proofs.sums.balanced_sums_of.Goals as goal

pub are_balanced-requires : goal.are_balanced-requires
are_balanced-requires c =
    let found = c.in-Ok.ensures in
    record { fits = omega (arith, stored-small _ found.1 c.in-Ok.sums found.2) }

pub returns : goal.returns
returns c =
    let found = c.in-Ok.ensures in
    let w = with_weights c.args.coterie.now c.args.capacities.now c.args.quorum_weights.now c.args.voter_weights.now in
    weights_fault-unbalanced w c.in-Ok.sums found.1 found.2 c.are_balanced.result c.are_balanced.ensures c.if-are_balanced.false found.0
    ∙ ap Some (sym (c.balance_fault.ensures w refl found.1 found.2))
