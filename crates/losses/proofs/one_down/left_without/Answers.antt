use Rattle.std.proofs.Common.{subst}
use Rattle.quorum_set.specs.Coteries.{QuorumSystem}
use Rattle.failures.specs.Failures.{MeetsEach}
use Rattle.losses.proofs.one_down.left_without.Goals as goal

pub returns-then-not-bears : goal.returns-then-not-bears
returns-then-not-bears c =
    subst (MeetsEach c.args.weights.now.system.quorums) c.alone-down.ensures
    (subst (λ (s : QuorumSystem). MeetsEach s.quorums c.alone-down.result) c.coterie.ensures.value (c.bears.ensures.no c.if-not-bears.true))
