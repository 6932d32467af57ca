use Rattle.std.proofs.Common.{◌≡◌, ◌∙◌, ap, refl}
use Rattle.message.specs.declared.message.Message.TheVariants as kinds
use Rattle.message.specs.declared.message.ToVoter.{ToVoter}
use Rattle.lock_blocks.proofs.voters.read_to_voter.Goals as goal

pub returns-in-Ok-ToVoter-clause-only : goal.returns-in-Ok-ToVoter-clause-only
returns-in-Ok-ToVoter-clause-only c = λ n is.
    let read = c.read_message.ensures.read (kinds.ToVoter n) is.has_line is.line_is in
    cc

pub returns-in_default-clause-refused : goal.returns-in_default-clause-refused
returns-in_default-clause-refused c = (
  refl,
  λ n is.
      let read = c.read_message.ensures.read (kinds.ToVoter n) is.has_line is.line_is in
      c.if-message-id.false (let same : c.in-Ok-ToVoter.message ≡ n = cc in ap (λ (m : ToVoter). m.voter) same ∙ is.its_own),
)

pub returns-in_default-3-clause-refused : goal.returns-in_default-3-clause-refused
returns-in_default-3-clause-refused c = (
  refl,
  λ n is.
      let read = c.read_message.ensures.read (kinds.ToVoter n) is.has_line is.line_is in
      cc,
)
