use Rattle.std.proofs.Common.{◌≡◌, map, take}
use Rattle.show_failures.specs.Bridges.{namesakes}
use Rattle.show_failures.proofs.bridge.namesakes.Given as goal

-- the sets of the quorums so far
abbrev pub invariant-loop-number : goal.invariant-loop-number
invariant-loop-number l = l.sets.items ≡ map (namesakes l.first l.second) (take l.number l.second.system.quorums)
