use Rattle.members.proofs.BlankLemmas.{AreIdle-fresh}
use Rattle.members.proofs.blank.Blank.open.Goals as goal

pub returns-clause-idle : goal.returns-clause-idle
returns-clause-idle g c = AreIdle-fresh g.N.ClusterName.cluster c.self.inside.clients c.in_ok-mailroom.members.items c.in_ok-mailroom.ensures.members
