use Rattle.std.proofs.Common.{◌≡◌, length, take}
use Rattle.numbers.specs.Counts.{least_of}
use Rattle.show_figures.proofs.bounds.smallest_size.Given as goal

-- the size of the smallest of the quorums so far
abbrev pub invariant-loop-number : goal.invariant-loop-number
invariant-loop-number l = l.least ≡ least_of length (take l.number l.coterie.quorums)
