use Rattle.voter.proofs.Effects.{VoteMoves-step}
use Rattle.voter.proofs.laws.grants_are_numbered.Goals as goal

pub returns : goal.returns
returns c = VoteMoves-step
