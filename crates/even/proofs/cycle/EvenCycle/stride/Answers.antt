use Rattle.std.proofs.Common.{subst}
use Rattle.even.specs.EvenCycles.{IsFair}
use Rattle.even.proofs.cycle.EvenCycle.stride.Goals as goal

pub returns-clause-fair : goal.returns-clause-fair
returns-clause-fair c = subst IsFair c.self.view_is c.self.invariant.fair
