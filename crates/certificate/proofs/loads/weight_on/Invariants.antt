use Rattle.std.proofs.Common.{◌≡◌, ◌≤◌, ◌+◌, sum, take, drop}
use Rattle.certificate.specs.Loads.{weight_on}
use Rattle.certificate.proofs.loads.weight_on.Given as goal

abbrev pub invariant-loop-j : goal.invariant-loop-j
invariant-loop-j l = (l.weight + weight_on l.voter (drop l.j l.coterie.quorums) (drop l.j l.weights) ≡ weight_on l.voter l.coterie.quorums l.weights) × (l.weight ≤ sum (take l.j l.weights))
