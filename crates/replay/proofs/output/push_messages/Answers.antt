use Rattle.std.proofs.Common.{string_bytes}
use Rattle.replay.proofs.OutputLemmas.{sent_line-next}
use Rattle.replay.proofs.output.push_messages.Goals as goal

pub loop-number-preserved : goal.loop-number-preserved
loop-number-preserved c =
    sent_line-next c.args.world.now.state.sent c.loop-number.number c.message.result (string_bytes c.loop-number.text)
    (string_bytes c.push_sent.new.text) _ c.message.ensures.value c.in_ok-push_sent.ensures c.loop-number.invariant
