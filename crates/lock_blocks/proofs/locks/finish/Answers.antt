use Rattle.std.proofs.Common.{◌∙◌, Option, ap}
use Rattle.blocks.specs.Tables.{row_or_none}
use Rattle.lock_node.specs.Letters.{heard}
use Rattle.voter.specs.declared.state.Grant.{Grant}
use Rattle.lock_blocks.specs.Lines.{lines_to_clients}
use Rattle.lock_blocks.proofs.LockLemmas.{sends_written}
use Rattle.lock_blocks.proofs.locks.finish.Goals as goal

pub returns-clause-tells : goal.returns-clause-tells
returns-clause-tells c = λ before rows id limit held granted are.
    sends_written _ _ _ _ _ _
    (ap lines_to_clients (c.as_slice.ensures.value ∙ c.heard-kept.ensures.heard rows are ∙ ap (λ (h : Option Grant). heard (row_or_none rows) h c.args.replies.now) c.held.ensures))
    c.in_ok-put_to_clients.ensures.done (c.store_voter.ensures, c.show.ensures before id limit held granted)
