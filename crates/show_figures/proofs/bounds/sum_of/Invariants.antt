use Rattle.std.proofs.Common.{◌≡◌, ◌≤◌, ◌*◌, sum, take}
use Rattle.show_figures.proofs.bounds.sum_of.Given as goal

-- the sum so far, each capacity at most 1000
abbrev pub invariant-loop-capacity : goal.invariant-loop-capacity
invariant-loop-capacity l = (l.sum ≡ sum (take l.capacity-index l.capacities)) × (l.sum ≤ l.capacity-index * 1000)
