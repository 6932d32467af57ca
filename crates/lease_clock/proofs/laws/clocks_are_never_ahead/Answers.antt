use Rattle.lease_clock.proofs.ClockLemmas.{silent_for, skips_more, stays_behind}
use Rattle.lease_clock.proofs.laws.clocks_are_never_ahead.Goals as goal

pub returns-clause-skips : goal.returns-clause-skips
returns-clause-skips c = skips_more

pub returns-clause-behind : goal.returns-clause-behind
returns-clause-behind c = stays_behind

pub returns-clause-silent : goal.returns-clause-silent
returns-clause-silent c = silent_for
