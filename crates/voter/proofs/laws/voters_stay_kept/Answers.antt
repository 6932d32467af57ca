use Rattle.voter.proofs.KeptLemmas.{IsKept-start, IsKept-step, IsKept-least}
use Rattle.voter.proofs.laws.voters_stay_kept.Goals as goal

pub returns-clause-first : goal.returns-clause-first
returns-clause-first c = IsKept-start

pub returns-clause-steps : goal.returns-clause-steps
returns-clause-steps c = IsKept-step

pub returns-clause-least : goal.returns-clause-least
returns-clause-least c = IsKept-least
