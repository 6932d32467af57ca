use Rattle.quorum_set.proofs.Meetings.{AllMeet-coterie}
use Rattle.board.proofs.board.Board.new.Goals as goal

pub over-requires-clause-meet : goal.over-requires-clause-meet
over-requires-clause-meet c =
    let voters = c.voters-voters.ensures in
    rw (voters.value, c.in_ok-quorums.ensures) (AllMeet-coterie c.args.coterie.now voters.coterie)
