use Rattle.std.proofs.Common.{◌≡◌, ◌≤◌, ◌*◌, take}
use Rattle.certificate.specs.Loads.{weight_within}
use Rattle.certificate.proofs.loads.weight_within.Given as goal

abbrev pub invariant-loop-i : goal.invariant-loop-i
invariant-loop-i l = (l.weight ≡ weight_within l.weights (take l.i-index l.i-items)) × (l.weight ≤ l.i-index * 1000000)
