use Rattle.own_stamps.proofs.Example.{eight_own, not_others, seven_own, two_ask}
use Rattle.own_stamps.proofs.laws.two_sessions_ask.Goals as goal

pub returns-clause-ask : goal.returns-clause-ask
returns-clause-ask c = two_ask c.a_voter_is_made_again.ensures

pub returns-clause-first : goal.returns-clause-first
returns-clause-first c = seven_own

pub returns-clause-second : goal.returns-clause-second
returns-clause-second c = eight_own

pub returns-clause-other : goal.returns-clause-other
returns-clause-other c = not_others
