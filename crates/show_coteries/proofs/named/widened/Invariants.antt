use Rattle.std.proofs.Common.{◌≡◌, take}
use Rattle.show_coteries.proofs.named.widened.Given as goal

-- the numbers so far
abbrev pub invariant-loop-i : goal.invariant-loop-i
invariant-loop-i l = l.wide.items ≡ take l.i l.sizes
