use Rattle.std.proofs.Common.{string_bytes}
use Rattle.replay.specs.RecordTexts.{draw_form}
use Rattle.texts.proofs.LineLemmas.{text_of-more}
use Rattle.replay.proofs.record_writing.push_draws.Goals as goal

pub loop-draw-preserved : goal.loop-draw-preserved
loop-draw-preserved c =
    text_of-more draw_form c.args.draws.now c.loop-draw.draw-index (0, 0, 0) (string_bytes c.loop-draw.text)
    (string_bytes c.push_draw.new.text) _ c.loop-draw-test.true c.in_ok-push_draw.ensures c.loop-draw.invariant
