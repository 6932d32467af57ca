use Rattle.voter.proofs.Effects.{IsSound-step}
use Rattle.voter.proofs.Soundness.{IsSound-start}
use Rattle.voter.proofs.laws.voters_stay_sound.Goals as goal

pub returns-clause-first : goal.returns-clause-first
returns-clause-first c = IsSound-start

pub returns-clause-steps : goal.returns-clause-steps
returns-clause-steps c = IsSound-step
