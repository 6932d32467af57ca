use Rattle.lease_clock.proofs.ClockLemmas.{dead_silent, skips_none}
use Rattle.lease_clock.proofs.laws.dead_sessions_are_silent.Goals as goal

pub returns-clause-silent : goal.returns-clause-silent
returns-clause-silent c = dead_silent

pub returns-clause-skips_nothing : goal.returns-clause-skips_nothing
returns-clause-skips_nothing c = skips_none
