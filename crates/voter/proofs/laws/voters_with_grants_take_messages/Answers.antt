use Rattle.voter.proofs.Staying.{takes-step}
use Rattle.voter.proofs.laws.voters_with_grants_take_messages.Goals as goal

pub returns : goal.returns
returns c = takes-step
