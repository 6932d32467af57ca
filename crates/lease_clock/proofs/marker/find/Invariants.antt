use Rattle.std.proofs.Common.{◌≡◌, drop}
use Rattle.lease_clock.specs.Clocks.{from_number}
use Rattle.lease_clock.proofs.marker.find.Given as goal

abbrev pub invariant-loop-i : goal.invariant-loop-i
invariant-loop-i l = from_number l.number (drop l.i l.markers) ≡ from_number l.number l.markers
