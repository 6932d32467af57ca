use Rattle.requester.proofs.Clocks.{KeepsTime-step}
use Rattle.requester.proofs.laws.clocks_never_fall.Goals as goal

pub returns : goal.returns
returns c = KeepsTime-step
