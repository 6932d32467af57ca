use Rattle.std.proofs.Common.{subst}
use Rattle.quorum_set.specs.Meetings.{AllMeet}
use Rattle.board.specs.Seats.{BoardState}
use Rattle.board.proofs.board.Board.voters.Goals as goal

pub returns-clause-meet : goal.returns-clause-meet
returns-clause-meet c = subst (λ (b : BoardState). AllMeet b.voters b.quorums) c.self.view_is c.self.invariant.meet
