use Rattle.std.proofs.Common.{◌≡◌}
use Rattle.qlock_plan_c.specs.Orders.{masks_of}
use Rattle.qlock_plan_c.proofs.order.Order.masks.Given as goal

abbrev pub invariant-loop-i : goal.invariant-loop-i
invariant-loop-i l = l.masks.items ≡ masks_of l.self l.first l.i
