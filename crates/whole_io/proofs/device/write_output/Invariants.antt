use Rattle.std.proofs.Common.{◌≡◌, ◌≤◌, ◌-◌, length, false, take}
use Rattle.std.specs.Io.KnownBytes.{Appends}
use Rattle.whole_io.proofs.device.write_output.Given as goal

abbrev pub invariant-writing : goal.invariant-writing
invariant-writing g l = record {
  working : l.writer.failed ≡ false;
  within : l.at ≤ length l.output;
  written : Appends (g.W.Write.contents l.fn.writer.inner) (g.W.Write.contents l.writer.inner) (take l.at l.output);
}

abbrev pub decreases-writing : goal.decreases-writing
decreases-writing g l = length l.output - l.at
