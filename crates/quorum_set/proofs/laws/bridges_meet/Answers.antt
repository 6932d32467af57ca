use Rattle.quorum_set.proofs.BridgeLemmas.{AllMeet-bridge}
use Rattle.quorum_set.proofs.laws.bridges_meet.Goals as goal

pub returns : goal.returns
returns c b is = AllMeet-bridge b is
