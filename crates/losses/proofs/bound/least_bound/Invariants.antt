use Rattle.std.proofs.Common.{◌≡◌, take}
use Rattle.numbers.specs.Counts.{least_of}
use Rattle.losses.specs.Regrets.{bound_at}
use Rattle.losses.proofs.bound.least_bound.Given as goal

abbrev pub invariant-loop-j : goal.invariant-loop-j
invariant-loop-j l = l.least ≡ least_of (bound_at l.weights l.limit l.multipliers l.failures) (take l.j l.coterie.quorums)
