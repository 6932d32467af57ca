use Rattle.quorum_set.proofs.Meetings.{AllMeet-coterie}
use Rattle.quorum_set.proofs.laws.coteries_meet.Goals as goal

pub returns : goal.returns
returns c s is = AllMeet-coterie s is
