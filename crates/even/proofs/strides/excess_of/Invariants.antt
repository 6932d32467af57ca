use Rattle.even.specs.Strides.{with_stride}
use Rattle.even.proofs.SlackLemmas.{IsExcessBelow}
use Rattle.even.proofs.strides.excess_of.Given as goal

abbrev pub invariant-loop-voter : goal.invariant-loop-voter
invariant-loop-voter l = IsExcessBelow (with_stride l.weights l.stride) l.voter l.excess
