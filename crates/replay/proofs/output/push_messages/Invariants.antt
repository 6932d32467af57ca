use Rattle.std.proofs.Common.{◌≡◌, ◌++◌, drop, string_bytes}
use Rattle.replay.specs.Outputs.{sent_lines}
use Rattle.replay.proofs.output.push_messages.Given as goal

-- what was written, and then the lines of the messages that are left, is the whole
abbrev pub invariant-loop-number : goal.invariant-loop-number
invariant-loop-number l = string_bytes l.text ++ sent_lines l.number (drop l.number l.world.state.sent) ≡ string_bytes l.fn.text ++ sent_lines l.first (drop l.first l.world.state.sent)
