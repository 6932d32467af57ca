use Rattle.std.proofs.Common.{◌≡◌, ◌-◌, ◌*◌, ◌++◌, drop, length}
use Rattle.lease_clock.specs.Saved.{slots}
use Rattle.lease_clock.proofs.saved.slots_of.Given as goal

abbrev pub invariant-loop-slot : goal.invariant-loop-slot
invariant-loop-slot l = record {
  len : length l.words.items ≡ 2 * l.slot;
  words : l.words.items ++ slots (16 - l.slot) (drop l.slot l.markers) ≡ slots 16 l.markers;
}
