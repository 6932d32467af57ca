use Rattle.std.proofs.Common.{arith}
use Rattle.replay.proofs.AscendingLemmas.{IsCounted-more, IsMissing-found, EachOnce-end}
use Rattle.replay.proofs.check.least_missing.Goals as goal

pub returns-then-ascending-place : goal.returns-then-ascending-place
returns-then-ascending-place c = IsMissing-found c.args.ascending.now c.loop-place.place c.requires.ascending c.loop-place.invariant (omega arith) (λ e. omega arith)

pub loop-place-preserved : goal.loop-place-preserved
loop-place-preserved c = IsCounted-more c.args.ascending.now c.loop-place.place c.requires.ascending c.requires.apart c.loop-place.invariant (omega arith) (omega arith)

pub returns : goal.returns
returns c = EachOnce-end c.args.ascending.now c.loop-place.place c.requires.apart c.loop-place.invariant (omega arith)
