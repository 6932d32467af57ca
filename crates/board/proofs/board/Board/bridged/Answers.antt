use Rattle.std.proofs.Common.{ap, ◌∙◌}
use Rattle.quorum_set.specs.Coteries.{QuorumSystem}
use Rattle.quorum_set.proofs.BridgeLemmas.{AllMeet-bridge}
use Rattle.board.proofs.board.Board.bridged.Goals as goal

pub over-requires-clause-meet : goal.over-requires-clause-meet
over-requires-clause-meet c =
    let voters = c.voters-voters.ensures.value ∙ ap (λ (s : QuorumSystem). s.voters) c.first.ensures.value in
    rw (voters, c.in_ok-quorums.ensures) (AllMeet-bridge c.args.bridge.now c.first.ensures.bridge)
