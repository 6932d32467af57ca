use Rattle.std.proofs.Common.{◌≡◌, ◌≤◌, ◌*◌, ◌++◌, drop, length}
use Rattle.lease_clock.proofs.SavedLemmas.{filled}
use Rattle.lease_clock.proofs.saved.markers_in.Given as goal

abbrev pub invariant-loop-slot : goal.invariant-loop-slot
invariant-loop-slot l = record {
  few : length l.markers.items ≤ l.slot;
  markers : l.markers.items ++ filled (drop (2 * l.slot) l.words) ≡ filled l.words;
}
