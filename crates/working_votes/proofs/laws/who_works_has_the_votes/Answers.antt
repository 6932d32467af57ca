use Rattle.working_votes.proofs.Votes.{has_votes}
use Rattle.working_votes.proofs.laws.who_works_has_the_votes.Goals as goal

pub returns : goal.returns
returns c = has_votes
