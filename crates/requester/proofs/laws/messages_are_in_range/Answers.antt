use Rattle.requester.proofs.RangeLemmas.{AllInRange-step, RemindersInRange-remind}
use Rattle.requester.proofs.laws.messages_are_in_range.Goals as goal

pub returns-clause-steps : goal.returns-clause-steps
returns-clause-steps c = AllInRange-step

pub returns-clause-reminders : goal.returns-clause-reminders
returns-clause-reminders c = RemindersInRange-remind
