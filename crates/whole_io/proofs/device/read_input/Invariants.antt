use Rattle.std.proofs.Common.{◌≡◌, ◌≤◌, ◌-◌, length, false}
use Rattle.std.specs.Io.KnownBytes.{Consumes}
use Rattle.whole_io.proofs.device.read_input.Given as goal

abbrev pub invariant-reading : goal.invariant-reading
invariant-reading g l = record {
  working : l.reader.failed ≡ false;
  short : length l.input.items ≤ 16777217;
  read : Consumes (g.R.Read.remaining l.fn.reader.inner) (g.R.Read.remaining l.reader.inner) l.input.items;
}

abbrev pub decreases-reading : goal.decreases-reading
decreases-reading g l = 16777217 - length l.input.items
