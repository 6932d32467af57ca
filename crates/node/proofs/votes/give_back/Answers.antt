use Rattle.std.proofs.Common.{arith}
use Rattle.node.proofs.VoteLemmas.{Compared-all}
use Rattle.node.proofs.votes.give_back.Goals as goal

pub returns-clause-held : goal.returns-clause-held
returns-clause-held c =
    Compared-all c.args.board.now.voters c.quorum-voter-items.result.now c.args.requester.now.held c.loop-voter.seat.held c.loop-voter.voter-index c.requires.places.1
    (omega arith) c.loop-voter.invariant.compared
