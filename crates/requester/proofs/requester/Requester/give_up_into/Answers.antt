use Rattle.std.proofs.Common.{ap, ◌∙◌}
use Rattle.requester.specs.declared.state.ClientState.{ClientState}
use Rattle.requester.specs.Words.{members}
use Rattle.requester.proofs.Members.{AreMembers-set}
use Rattle.requester.proofs.Dropping.{HoldsOfMembers-sound}
use Rattle.requester.proofs.Calls.{IsSameClient-give_up}
use Rattle.requester.proofs.requester.Requester.give_up_into.Goals as goal

pub give_up-requires-clause-of_members : goal.give_up-requires-clause-of_members
give_up-requires-clause-of_members c = HoldsOfMembers-sound c.self.inside.state c.self.invariant

pub give_up-requires-clause-members : goal.give_up-requires-clause-members
give_up-requires-clause-members c = AreMembers-set (members c.self.inside.state) c.self.invariant.quorum

pub invariant_of-self : goal.invariant_of-self
invariant_of-self c = (IsSameClient-give_up c.self.inside.state c.give_up.new.self c.give_up.new.out.items c.give_up.result c.self.invariant c.give_up.ensures.given_up c.give_up.ensures.refused).sound

pub returns-clause-id : goal.returns-clause-id
returns-clause-id c = (IsSameClient-give_up c.self.inside.state c.give_up.new.self c.give_up.new.out.items c.give_up.result c.self.invariant c.give_up.ensures.given_up
    c.give_up.ensures.refused).id ∙ ap (λ (x : ClientState). x.id) c.self.view_is

pub returns-clause-limit : goal.returns-clause-limit
returns-clause-limit c = (IsSameClient-give_up c.self.inside.state c.give_up.new.self c.give_up.new.out.items c.give_up.result c.self.invariant c.give_up.ensures.given_up
    c.give_up.ensures.refused).limit ∙ ap (λ (x : ClientState). x.limit) c.self.view_is
