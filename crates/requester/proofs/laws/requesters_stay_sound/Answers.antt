use Rattle.requester.proofs.SoundSteps.{IsSound-start, IsSound-step}
use Rattle.requester.proofs.laws.requesters_stay_sound.Goals as goal

pub returns-clause-first : goal.returns-clause-first
returns-clause-first c = IsSound-start

pub returns-clause-steps : goal.returns-clause-steps
returns-clause-steps c = IsSound-step
