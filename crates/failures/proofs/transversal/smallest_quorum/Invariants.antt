use Rattle.std.proofs.Common.{◌<◌, length}
use Rattle.failures.proofs.transversal.smallest_quorum.Given as goal

abbrev pub invariant-loop-j : goal.invariant-loop-j
invariant-loop-j l = l.least < length l.coterie.quorums
