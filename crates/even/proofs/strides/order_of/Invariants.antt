use Rattle.std.proofs.Common.{◌≡◌}
use Rattle.even.specs.EvenCycles.{window}
use Rattle.even.specs.Strides.{with_stride}
use Rattle.even.proofs.strides.order_of.Given as goal

abbrev pub invariant-loop-ticket : goal.invariant-loop-ticket
invariant-loop-ticket l = l.order.items ≡ window (with_stride l.weights l.stride) 0 l.ticket
