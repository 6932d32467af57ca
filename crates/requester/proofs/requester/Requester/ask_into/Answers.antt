use Rattle.std.proofs.Common.{ap, ◌∙◌}
use Rattle.requester.specs.declared.state.ClientState.{ClientState}
use Rattle.requester.proofs.Dropping.{held-idle}
use Rattle.requester.proofs.Calls.{IsSameClient-ask}
use Rattle.requester.proofs.requester.Requester.ask_into.Goals as goal

pub ask-requires-clause-idle : goal.ask-requires-clause-idle
ask-requires-clause-idle c = held-idle c.self.inside.state c.self.invariant

pub invariant_of-self : goal.invariant_of-self
invariant_of-self c = (IsSameClient-ask c.self.inside.state c.ask.new.self c.ask.new.out.items c.args.quorum.now c.ask.result c.self.invariant c.requires c.ask.ensures.set
    c.ask.ensures.asked c.ask.ensures.refused).sound

pub returns-clause-id : goal.returns-clause-id
returns-clause-id c = (IsSameClient-ask c.self.inside.state c.ask.new.self c.ask.new.out.items c.args.quorum.now c.ask.result c.self.invariant c.requires c.ask.ensures.set
    c.ask.ensures.asked c.ask.ensures.refused).id ∙ ap (λ (x : ClientState). x.id) c.self.view_is

pub returns-clause-limit : goal.returns-clause-limit
returns-clause-limit c = (IsSameClient-ask c.self.inside.state c.ask.new.self c.ask.new.out.items c.args.quorum.now c.ask.result c.self.invariant c.requires c.ask.ensures.set
    c.ask.ensures.asked c.ask.ensures.refused).limit ∙ ap (λ (x : ClientState). x.limit) c.self.view_is
