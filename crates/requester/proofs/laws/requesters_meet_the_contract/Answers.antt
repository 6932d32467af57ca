use Rattle.requester.proofs.ContractLemmas.{MeetsContract-step, AllRepeat-remind}
use Rattle.requester.proofs.laws.requesters_meet_the_contract.Goals as goal

pub returns-clause-steps : goal.returns-clause-steps
returns-clause-steps c = MeetsContract-step

pub returns-clause-reminders : goal.returns-clause-reminders
returns-clause-reminders c = AllRepeat-remind
