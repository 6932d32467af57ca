use Rattle.std.proofs.Common.{◌≡◌}
use Rattle.show_failures.specs.Used.{used_below}
use Rattle.show_failures.proofs.used.used_quorums.Given as goal

-- the quorums so far that a cycle uses
abbrev pub invariant-loop-number : goal.invariant-loop-number
invariant-loop-number l = l.used.items ≡ used_below l.weights l.number
