use Rattle.requester.proofs.Clocks.{reminds-request, reminds-relinquish}
use Rattle.requester.proofs.laws.reminders_ask_again.Goals as goal

pub returns-clause-asks : goal.returns-clause-asks
returns-clause-asks c = reminds-request

pub returns-clause-gives : goal.returns-clause-gives
returns-clause-gives c = reminds-relinquish
