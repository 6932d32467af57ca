use Rattle.numbers.proofs.SetLemmas.{IsSet-set_where}
use Rattle.quorum_set.proofs.qset.QSet.join.Goals as goal

pub returns-clause-set : goal.returns-clause-set
returns-clause-set c = IsSet-set_where _
