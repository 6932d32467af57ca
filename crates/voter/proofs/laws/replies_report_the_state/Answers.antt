use Rattle.voter.proofs.ReplyLemmas.{AreAnswers-step, AllReportPlace-remind}
use Rattle.voter.proofs.laws.replies_report_the_state.Goals as goal

pub returns-clause-steps : goal.returns-clause-steps
returns-clause-steps c = AreAnswers-step

pub returns-clause-reminders : goal.returns-clause-reminders
returns-clause-reminders c = AllReportPlace-remind
