use Rattle.std.proofs.Common.{◌≡◌, ◌∙◌, ap, refl}
use Rattle.message.specs.declared.message.Message.TheVariants as kinds
use Rattle.message.specs.declared.message.ToClient.{ToClient}
use Rattle.lock_blocks.proofs.clients.read_to_client.Goals as goal

pub returns-in-Ok-ToClient-clause-only : goal.returns-in-Ok-ToClient-clause-only
returns-in-Ok-ToClient-clause-only c = λ n is.
    let read = c.read_message.ensures.read (kinds.ToClient n) is.has_line is.line_is in
    cc

pub returns-in_default-clause-refused : goal.returns-in_default-clause-refused
returns-in_default-clause-refused c = (
  refl,
  λ n is.
      let read = c.read_message.ensures.read (kinds.ToClient n) is.has_line is.line_is in
      c.if-message-id.false (let same : c.in-Ok-ToClient.message ≡ n = cc in ap (λ (m : ToClient). m.client) same ∙ is.its_own),
)

pub returns-in_default-3-clause-refused : goal.returns-in_default-3-clause-refused
returns-in_default-3-clause-refused c = (
  refl,
  λ n is.
      let read = c.read_message.ensures.read (kinds.ToClient n) is.has_line is.line_is in
      cc,
)
