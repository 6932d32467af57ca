use Rattle.dealer.proofs.AccountLemmas.{count_of-by_quorum}
use Rattle.dealer.proofs.laws.voters_are_counted_by_quorum.Goals as goal

pub returns : goal.returns
returns c = count_of-by_quorum
