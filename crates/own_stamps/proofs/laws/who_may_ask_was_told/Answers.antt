use Rattle.own_stamps.proofs.OwnerLemmas.{quorum_told}
use Rattle.own_stamps.proofs.laws.who_may_ask_was_told.Goals as goal

pub returns : goal.returns
returns c = quorum_told
