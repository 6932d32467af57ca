use Rattle.callers.proofs.Working.{call_has_votes}
use Rattle.callers.proofs.laws.a_call_that_works_has_its_votes.Goals as goal

pub returns : goal.returns
returns c = call_has_votes
