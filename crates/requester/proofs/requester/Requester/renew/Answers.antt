use Rattle.requester.specs.Words.{members}
use Rattle.requester.proofs.Members.{AreMembers-set}
use Rattle.requester.proofs.requester.Requester.renew.Goals as goal

pub renew-requires : goal.renew-requires
renew-requires c = record { few = (AreMembers-set (members c.self.inside.state) c.self.invariant.quorum).few }
