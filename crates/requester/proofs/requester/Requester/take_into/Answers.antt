use Rattle.std.proofs.Common.{ap, ◌∙◌}
use Rattle.requester.specs.declared.state.ClientState.{ClientState}
use Rattle.requester.specs.Words.{members}
use Rattle.requester.proofs.Members.{AreMembers-set}
use Rattle.requester.proofs.Calls.{IsSameClient-take}
use Rattle.requester.proofs.requester.Requester.take_into.Goals as goal

pub take-requires-clause-members : goal.take-requires-clause-members
take-requires-clause-members c = AreMembers-set (members c.self.inside.state) c.self.invariant.quorum

pub invariant_of-self : goal.invariant_of-self
invariant_of-self c = (IsSameClient-take c.self.inside.state c.take.new.self c.args.message.now c.take.new.out.items c.take.result c.self.invariant c.take.ensures).sound

pub returns-clause-id : goal.returns-clause-id
returns-clause-id c = (IsSameClient-take c.self.inside.state c.take.new.self c.args.message.now c.take.new.out.items c.take.result c.self.invariant c.take.ensures).id
    ∙ ap (λ (x : ClientState). x.id) c.self.view_is

pub returns-clause-limit : goal.returns-clause-limit
returns-clause-limit c = (IsSameClient-take c.self.inside.state c.take.new.self c.args.message.now c.take.new.out.items c.take.result c.self.invariant c.take.ensures).limit
    ∙ ap (λ (x : ClientState). x.limit) c.self.view_is
