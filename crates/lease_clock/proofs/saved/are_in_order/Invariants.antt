use Rattle.std.proofs.Common.{drop}
use Rattle.lease_clock.specs.Clocks.{AreInOrder}
use Rattle.lease_clock.proofs.saved.are_in_order.Given as goal

abbrev pub invariant-loop-marker : goal.invariant-loop-marker
invariant-loop-marker l = record {
  yes : AreInOrder l.newest (drop l.marker-index l.markers) l.last → AreInOrder l.fn.first l.markers l.last;
  read : AreInOrder l.fn.first l.markers l.last → AreInOrder l.newest (drop l.marker-index l.markers) l.last;
}
