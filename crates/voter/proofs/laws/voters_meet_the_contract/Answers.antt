use Rattle.voter.proofs.Contract.{MeetsContract-step}
use Rattle.voter.proofs.ReplyLemmas.{AllReport-remind}
use Rattle.voter.proofs.laws.voters_meet_the_contract.Goals as goal

pub returns-clause-steps : goal.returns-clause-steps
returns-clause-steps c = MeetsContract-step

pub returns-clause-reminders : goal.returns-clause-reminders
returns-clause-reminders c = AllReport-remind
