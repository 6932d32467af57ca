use Rattle.lease_clock.proofs.ClockLemmas.{shows_more, stays_for}
use Rattle.lease_clock.proofs.laws.silence_is_counted.Goals as goal

pub returns-clause-shows : goal.returns-clause-shows
returns-clause-shows c = shows_more

pub returns-clause-stay : goal.returns-clause-stay
returns-clause-stay c = stays_for
