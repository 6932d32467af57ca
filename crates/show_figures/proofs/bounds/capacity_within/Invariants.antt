use Rattle.std.proofs.Common.{◌≡◌, ◌≤◌, ◌*◌, take}
use Rattle.certificate.specs.Loads.{weight_within}
use Rattle.show_figures.proofs.bounds.capacity_within.Given as goal

-- the capacities so far, each at most 1000
abbrev pub invariant-loop-i : goal.invariant-loop-i
invariant-loop-i l = (l.capacity ≡ weight_within l.capacities (take l.i-index l.i-items)) × (l.capacity ≤ l.i-index * 1000)
