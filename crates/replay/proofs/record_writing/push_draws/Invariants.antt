use Rattle.std.proofs.Common.{◌≡◌, ◌++◌, drop, string_bytes}
use Rattle.replay.specs.RecordTexts.{draws_text}
use Rattle.replay.proofs.record_writing.push_draws.Given as goal

-- what was written, and then the lines that are left, is the whole
abbrev pub invariant-loop-draw : goal.invariant-loop-draw
invariant-loop-draw l = string_bytes l.text ++ draws_text (drop l.draw-index l.draws) ≡ string_bytes l.fn.text ++ draws_text l.draws
