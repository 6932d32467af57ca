use Rattle.voter.proofs.Staying.{requests_stay-step}
use Rattle.voter.proofs.laws.requests_stay.Goals as goal

pub returns : goal.returns
returns c = requests_stay-step
