use Rattle.lost_rows.proofs.SameWorlds.{same_answers, same_may, same_uses}
use Rattle.lost_rows.proofs.laws.events_without_losses_are_those_of_sessions.Goals as goal

pub returns-clause-may_come : goal.returns-clause-may_come
returns-clause-may_come c = same_may

pub returns-clause-answers : goal.returns-clause-answers
returns-clause-answers c = same_answers

pub returns-clause-uses : goal.returns-clause-uses
returns-clause-uses c = same_uses
