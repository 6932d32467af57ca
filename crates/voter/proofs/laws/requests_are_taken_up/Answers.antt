use Rattle.voter.proofs.Staying.{taken_up-step}
use Rattle.voter.proofs.laws.requests_are_taken_up.Goals as goal

pub returns : goal.returns
returns c = taken_up-step
