use Rattle.std.proofs.Common.{◌≡◌, ◌≤◌, ◌*◌, take}
use Rattle.arrayvec.specs.ArrayString.{array_string_len}
use Rattle.lock_blocks.specs.Lines.{lines_to_voters}
use Rattle.lock_blocks.proofs.lines.lines_to_voters.Given as goal

abbrev pub invariant-loop-message : goal.invariant-loop-message
invariant-loop-message l = record {
  lines : l.text.bytes ≡ lines_to_voters (take l.message-index l.messages);
  len : array_string_len l.text ≤ 40 * l.message-index;
}
