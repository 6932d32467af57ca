use Rattle.voter.proofs.AskedBack.{AsksBack-start, AsksBack-step}
use Rattle.voter.proofs.Inquiring.{KeepsGrants-step}
use Rattle.voter.proofs.laws.votes_are_asked_back.Goals as goal

pub returns-clause-first : goal.returns-clause-first
returns-clause-first c = AsksBack-start

pub returns-clause-steps : goal.returns-clause-steps
returns-clause-steps c = AsksBack-step

pub returns-clause-grants : goal.returns-clause-grants
returns-clause-grants c = KeepsGrants-step
