use Rattle.quorum_set.proofs.BridgeLemmas.{IsLeastApart-first_apart}
use Rattle.quorum_set.proofs.laws.apart_pair_is_least.Goals as goal

pub returns : goal.returns
returns c = IsLeastApart-first_apart
