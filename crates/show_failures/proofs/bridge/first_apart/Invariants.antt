use Rattle.std.proofs.Common.{◌≡◌, drop}
use Rattle.quorum_set.specs.Bridges.{first_apart}
use Rattle.show_failures.proofs.bridge.first_apart.Given as goal

-- the first pair from here on is the first of all
abbrev pub invariant-loop-number : goal.invariant-loop-number
invariant-loop-number l = first_apart l.number (drop l.number l.coterie.quorums) l.sets ≡ first_apart 0 l.coterie.quorums l.sets
