use Rattle.voter.proofs.ReplyLemmas.{CarrySeen-step, AllCarry-remind}
use Rattle.voter.proofs.laws.replies_carry_what_was_seen.Goals as goal

pub returns-clause-steps : goal.returns-clause-steps
returns-clause-steps c = CarrySeen-step

pub returns-clause-reminders : goal.returns-clause-reminders
returns-clause-reminders c = AllCarry-remind
