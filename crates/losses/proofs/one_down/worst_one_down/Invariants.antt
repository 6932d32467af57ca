use Rattle.losses.specs.Worst.{IsWorstBelow}
use Rattle.losses.proofs.one_down.worst_one_down.Given as goal

abbrev pub invariant-loop-voter : goal.invariant-loop-voter
invariant-loop-voter l = IsWorstBelow l.voter l.weights l.worst
