use Rattle.requester.specs.Words.{members}
use Rattle.requester.proofs.Members.{AreMembers-set}
use Rattle.requester.proofs.requester.Requester.remind.Goals as goal

pub remind-requires : goal.remind-requires
remind-requires c = record { members = AreMembers-set (members c.self.inside.state) c.self.invariant.quorum }
