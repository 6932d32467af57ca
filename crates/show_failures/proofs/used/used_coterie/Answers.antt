use Rattle.std.proofs.Common.{◌∙◌, ap, ap₂, sym}
use Rattle.quorum_set.specs.Coteries.{coterie_of}
use Rattle.show_failures.proofs.UsedLemmas.{no_used_fault}
use Rattle.show_failures.proofs.used.used_coterie.Goals as goal

pub unreachable-requires : goal.unreachable-requires
unreachable-requires c =
    let voters = c.voters.ensures.value ∙ ap (λ s. s.voters) c.coterie.ensures.value in
    no_used_fault c.args.weights.now c.in-Err.field-0 c.coterie.ensures.weights
    (sym (ap₂ coterie_of voters c.in_ok-quorums.ensures.quorums) ∙ sym c.of.ensures ∙ c.in-Err.is)
