use Rattle.plan_texts.proofs.PlanLaws.{plan_text-end, texts_apart, weights_text-end}
use Rattle.plan_texts.proofs.laws.texts_end.Goals as goal

pub returns-clause-plan : goal.returns-clause-plan
returns-clause-plan c = plan_text-end

pub returns-clause-weights : goal.returns-clause-weights
returns-clause-weights c = weights_text-end

pub returns-clause-apart : goal.returns-clause-apart
returns-clause-apart c = texts_apart
