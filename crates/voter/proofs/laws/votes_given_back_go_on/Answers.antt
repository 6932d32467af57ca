use Rattle.voter.proofs.Staying.{goes_on-step}
use Rattle.voter.proofs.laws.votes_given_back_go_on.Goals as goal

pub returns : goal.returns
returns c = goes_on-step
