use Rattle.requester.proofs.Clocks.{old-take}
use Rattle.requester.proofs.laws.old_votes_go_back.Goals as goal

pub returns : goal.returns
returns c = old-take
