use Rattle.working_votes.proofs.Votes.{told_has_votes}
use Rattle.working_votes.proofs.laws.who_is_told_to_work_has_the_votes.Goals as goal

pub returns : goal.returns
returns c = told_has_votes
