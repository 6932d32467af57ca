use Rattle.std.proofs.Common.{string_bytes}
use Rattle.replay.specs.RecordTexts.{pass_form}
use Rattle.texts.proofs.LineLemmas.{text_of-more}
use Rattle.replay.proofs.record_writing.push_passes.Goals as goal

pub loop-pass-preserved : goal.loop-pass-preserved
loop-pass-preserved c =
    text_of-more pass_form c.args.passes.now c.loop-pass.pass-index (0, 0) (string_bytes c.loop-pass.text)
    (string_bytes c.push_pass.new.text) _ c.loop-pass-test.true c.in_ok-push_pass.ensures c.loop-pass.invariant
