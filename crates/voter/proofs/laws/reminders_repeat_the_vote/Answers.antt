use Rattle.voter.proofs.Staying.{reminds}
use Rattle.voter.proofs.laws.reminders_repeat_the_vote.Goals as goal

pub returns : goal.returns
returns c = reminds
