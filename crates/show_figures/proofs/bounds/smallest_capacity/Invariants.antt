use Rattle.std.proofs.Common.{◌≡◌, take}
use Rattle.certificate.specs.Loads.{weight_within}
use Rattle.numbers.specs.Counts.{least_of}
use Rattle.show_figures.proofs.bounds.smallest_capacity.Given as goal

-- the least capacity of the quorums so far
abbrev pub invariant-loop-number : goal.invariant-loop-number
invariant-loop-number l = l.least ≡ least_of (weight_within l.capacities) (take l.number l.coterie.quorums)
