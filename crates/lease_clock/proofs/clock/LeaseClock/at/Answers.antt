use Rattle.std.proofs.Common.{arith}
use Rattle.lease_clock.proofs.ClockLemmas.{at_least, back_early}
use Rattle.lease_clock.proofs.clock.LeaseClock.at.Goals as goal

pub overflow_sub-result : goal.overflow_sub-result
overflow_sub-result c =
    let early = back_early _ c.self.invariant in
    let behind = c.self.invariant.behind in
    let later = (at_least c.args.now c.self.inside.last.left c.max.result c.max.ensures).1 in
    omega arith
