use Rattle.quorum_set.proofs.StrayLaws.{IsLeastStray-first_outside}
use Rattle.quorum_set.proofs.laws.found_stray_is_least.Goals as goal

pub returns : goal.returns
returns c = IsLeastStray-first_outside
