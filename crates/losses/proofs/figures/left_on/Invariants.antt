use Rattle.std.proofs.Common.{◌≡◌, ◌≤◌, ◌+◌, sum, take, drop}
use Rattle.certificate.specs.Loads.{weight_on}
use Rattle.losses.specs.Losses.{each_left}
use Rattle.losses.proofs.figures.left_on.Given as goal

abbrev pub invariant-loop-j : goal.invariant-loop-j
invariant-loop-j l = (l.left + weight_on l.voter (drop l.j l.coterie.quorums) (drop l.j (each_left l.down l.coterie.quorums l.weights)) ≡ weight_on l.voter l.coterie.quorums (each_left l.down l.coterie.quorums l.weights)) × (l.left ≤ sum (take l.j l.weights))
