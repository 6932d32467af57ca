use Rattle.std.proofs.Common.{ap, ◌∙◌}
use Rattle.requester.specs.declared.state.ClientState.{ClientState}
use Rattle.requester.specs.Words.{members}
use Rattle.requester.proofs.Members.{AreMembers-set}
use Rattle.requester.proofs.Dropping.{HoldsOfMembers-sound}
use Rattle.requester.proofs.Calls.{IsSameClient-leave}
use Rattle.requester.proofs.requester.Requester.leave_into.Goals as goal

pub leave-requires-clause-of_members : goal.leave-requires-clause-of_members
leave-requires-clause-of_members c = HoldsOfMembers-sound c.self.inside.state c.self.invariant

pub leave-requires-clause-members : goal.leave-requires-clause-members
leave-requires-clause-members c = AreMembers-set (members c.self.inside.state) c.self.invariant.quorum

pub invariant_of-self : goal.invariant_of-self
invariant_of-self c = (IsSameClient-leave c.self.inside.state c.leave.new.self c.leave.new.out.items c.leave.result c.self.invariant c.leave.ensures.left c.leave.ensures.refused).sound

pub returns-clause-id : goal.returns-clause-id
returns-clause-id c = (IsSameClient-leave c.self.inside.state c.leave.new.self c.leave.new.out.items c.leave.result c.self.invariant c.leave.ensures.left c.leave.ensures.refused).id
    ∙ ap (λ (x : ClientState). x.id) c.self.view_is

pub returns-clause-limit : goal.returns-clause-limit
returns-clause-limit c = (IsSameClient-leave c.self.inside.state c.leave.new.self c.leave.new.out.items c.leave.result c.self.invariant c.leave.ensures.left c.leave.ensures.refused).limit
    ∙ ap (λ (x : ClientState). x.limit) c.self.view_is
