use Rattle.blocks.specs.Tables.{row_or_none}
use Rattle.lock_node.specs.Letters.{is_heard}
use Rattle.lock_blocks.proofs.LockLemmas.{kept_few, kept_more}
use Rattle.lock_blocks.proofs.locks.heard.Goals as goal

pub loop-message-preserved : goal.loop-message-preserved
loop-message-preserved c = record {
  heard = λ rows are. kept_more (is_heard (row_or_none rows) c.args.held) c.args.messages.now c.loop-message.message-index _ _ _ _ c.loop-message-test.true
      c.keep_if.ensures (c.is_heard.ensures rows are) (c.loop-message.invariant.heard rows are);
  few = kept_few _ _ _ _ c.loop-message.message-index c.keep_if.ensures c.loop-message.invariant.few;
}
