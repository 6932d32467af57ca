use Rattle.std.proofs.Common.{◌≡◌, ◌≤◌, ◌*◌, ◌+◌, take}
use Rattle.arrayvec.specs.ArrayString.{array_string_len}
use Rattle.plan_inputs.specs.Lines.{numbered_line}
use Rattle.plan_inputs.proofs.lines.numbered.Given as goal

abbrev pub invariant-loop-number : goal.invariant-loop-number
invariant-loop-number l = record {
  line : l.line.bytes ≡ numbered_line l.words (take l.number-index l.numbers);
  len : array_string_len l.line ≤ 20 + 21 * l.number-index;
}
