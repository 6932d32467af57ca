use Rattle.whole_lock.proofs.Works.{has_quorum}
use Rattle.whole_lock.proofs.laws.who_works_has_the_votes_of_a_quorum.Goals as goal

pub returns : goal.returns
returns c = has_quorum
