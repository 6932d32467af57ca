use Rattle.std.proofs.Common.{ap, sym, ◌∙◌}
use Rattle.message.specs.declared.message.ClientBody.{ClientBody}
use Rattle.requester.specs.Steps.{take_body}
use Rattle.requester.proofs.Calls.{seen-take_fail, seen-take_inquire}
use Rattle.requester.proofs.state.ClientState.take_body.Goals as goal

pub returns-in-Fail-clause-seen : goal.returns-in-Fail-clause-seen
returns-in-Fail-clause-seen c =
    sym (ap (λ (b : ClientBody). (take_body c.args.self.now c.args.voter b).seen) c.in-Fail.is ∙ seen-take_fail c.args.self.now c.args.voter c.in-Fail.stamp)

pub returns-in-Inquire-clause-seen : goal.returns-in-Inquire-clause-seen
returns-in-Inquire-clause-seen c =
    sym (ap (λ (b : ClientBody). (take_body c.args.self.now c.args.voter b).seen) c.in-Inquire.is ∙ seen-take_inquire c.args.self.now c.args.voter c.in-Inquire.grant)
