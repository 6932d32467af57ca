use Rattle.std.proofs.Common.{◌+◌, ◌<◌, length, IfSome}
use Rattle.simplex.proofs.choice.greatest_entering.Given as goal

abbrev pub invariant-loop-column : goal.invariant-loop-column
invariant-loop-column l = IfSome l.best (λ j. j < length l.method.coterie.now.quorums + l.method.coterie.now.voters)
