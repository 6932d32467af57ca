use Rattle.quorum_set.proofs.MaskLemmas.{IsSet-members_of}
use Rattle.quorum_set.proofs.qset.QSet.len.Goals as goal

pub returns-clause-set : goal.returns-clause-set
returns-clause-set c = rw (← c.self.view_is) (IsSet-members_of c.self.inside.bits)
