use Rattle.board.proofs.KeptLaws.{KeepsVotes-Kept}
use Rattle.board.proofs.laws.votes_are_kept.Goals as goal

pub returns : goal.returns
returns c sheet s kept = KeepsVotes-Kept sheet s kept
