use Rattle.std.proofs.Common.{◌≡◌, ◌++◌, drop, string_bytes}
use Rattle.replay.specs.RecordTexts.{passes_text}
use Rattle.replay.proofs.record_writing.push_passes.Given as goal

-- what was written, and then the lines that are left, is the whole
abbrev pub invariant-loop-pass : goal.invariant-loop-pass
invariant-loop-pass l = string_bytes l.text ++ passes_text (drop l.pass-index l.passes) ≡ string_bytes l.fn.text ++ passes_text l.passes
