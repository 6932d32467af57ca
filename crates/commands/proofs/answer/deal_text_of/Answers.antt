use Rattle.std.proofs.Common.{◌∙◌}
use Rattle.plan_inputs.specs.Inputs.{parts_of}
use Rattle.commands.proofs.TextLemmas.{deal_text-joined}
use Rattle.commands.proofs.answer.deal_text_of.Goals as goal

pub returns : goal.returns
returns c =
    let joined = deal_text-joined (parts_of c.args.planned) c.args.count c.deref.result.now c.in_ok-account.account
    (c.deref.ensures.value ∙ c.in_ok-account.ensures.receipts) c.in_ok-account.ensures.account in
    rw joined at c.deal_lines_of.ensures
