use Rattle.voter.proofs.Staying.{ended-step}
use Rattle.voter.proofs.laws.releases_end_requests.Goals as goal

pub returns : goal.returns
returns c = ended-step
