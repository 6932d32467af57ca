use Rattle.replay.proofs.AscendingLemmas.{IsCounted}
use Rattle.replay.proofs.check.least_missing.Given as goal

abbrev pub invariant-loop-place : goal.invariant-loop-place
invariant-loop-place l = IsCounted l.ascending l.place
