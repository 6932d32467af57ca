use Rattle.working.proofs.Working.{has_its_votes}
use Rattle.working.proofs.laws.who_works_has_its_votes.Goals as goal

pub returns : goal.returns
returns c = has_its_votes
