use Rattle.std.proofs.Common.{◌≡◌, ◌≤◌, sum, take}
use Rattle.losses.specs.Losses.{each_left}
use Rattle.losses.proofs.figures.total_left.Given as goal

abbrev pub invariant-loop-j : goal.invariant-loop-j
invariant-loop-j l = (l.total ≡ sum (take l.j (each_left l.down l.coterie.quorums l.weights))) × (l.total ≤ sum (take l.j l.weights))
