use Rattle.std.proofs.Common.{◌≡◌, drop}
use Rattle.quorum_set.specs.Bridges.{first_apart}
use Rattle.quorum_set.proofs.bridge.first_apart.Given as goal

abbrev pub invariant-loop-j : goal.invariant-loop-j
invariant-loop-j l = first_apart l.j (drop l.j l.firsts) l.seconds ≡ first_apart 0 l.firsts l.seconds
