use Rattle.voter.proofs.Finished.{FinishesBy-step}
use Rattle.voter.proofs.laws.messages_finish_requests.Goals as goal

pub returns : goal.returns
returns c = FinishesBy-step
