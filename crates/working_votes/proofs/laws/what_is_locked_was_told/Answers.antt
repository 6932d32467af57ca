use Rattle.working_votes.proofs.Votes.{was_told}
use Rattle.working_votes.proofs.laws.what_is_locked_was_told.Goals as goal

pub returns : goal.returns
returns c = was_told
