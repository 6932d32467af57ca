use Rattle.voter.proofs.Staying.{first-step}
use Rattle.voter.proofs.laws.votes_go_to_the_first.Goals as goal

pub returns : goal.returns
returns c = first-step
