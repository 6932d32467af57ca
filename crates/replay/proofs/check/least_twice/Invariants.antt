use Rattle.replay.proofs.AscendingLemmas.{IsLeftTwice}
use Rattle.replay.proofs.check.least_twice.Given as goal

abbrev pub invariant-loop-place : goal.invariant-loop-place
invariant-loop-place l = IsLeftTwice l.ascending l.place
