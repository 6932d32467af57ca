use Rattle.failures.proofs.FailureLemmas.{IsTransversal-quorum}
use Rattle.failures.proofs.transversal.first_transversal.Goals as goal

pub returns : goal.returns
returns c =
    IsTransversal-quorum c.args.coterie.now c.smallest_quorum.result c.quorum.result.now _ c.quorum.ensures.coterie
    c.smallest_quorum.ensures c.quorum.ensures.value c.copy.ensures.value
