use Rattle.std.proofs.Common.{arith}
use Rattle.replay.proofs.AscendingLemmas.{IsTwice-found, IsLeftTwice-more, NoneTwice-end}
use Rattle.replay.proofs.check.least_twice.Goals as goal

pub returns-then-ascending-place : goal.returns-then-ascending-place
returns-then-ascending-place c = IsTwice-found c.args.ascending.now c.loop-place.place c.requires c.loop-place.invariant (omega arith) (omega arith)

pub loop-place-preserved : goal.loop-place-preserved
loop-place-preserved c = IsLeftTwice-more c.args.ascending.now c.loop-place.place c.requires c.loop-place.invariant (omega arith) (λ e. omega arith)

pub returns : goal.returns
returns c = NoneTwice-end c.args.ascending.now c.loop-place.place c.loop-place.invariant (omega arith)
