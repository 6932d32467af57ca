use Rattle.std.proofs.Common.{◌∙◌, sym}
use Rattle.quorum_set.specs.Bridges.{first_apart}
use Rattle.show_failures.proofs.BridgeLemmas.{pair_found}
use Rattle.show_failures.proofs.bridge.first_without_name.Goals as goal

pub returns : goal.returns
returns c =
    pair_found c.args.first.now c.args.second.now c.first_apart.result c.coterie.ensures.named
    (sym (c.first_apart.ensures ∙ (λ i. first_apart 0 (c.coterie.ensures.value i).quorums (c.requires i))))
