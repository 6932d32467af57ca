use Rattle.std.proofs.Common.{◌≡◌, ◌≤◌, take}
use Rattle.certificate.specs.Loads.{weight_within}
use Rattle.numbers.specs.Counts.{least_of}
use Rattle.certificate.proofs.loads.lightest_quorum.Given as goal

abbrev pub invariant-loop-j : goal.invariant-loop-j
invariant-loop-j l = (l.least ≡ least_of (weight_within l.weights) (take l.j l.coterie.quorums)) × (l.least ≤ 64000000)
