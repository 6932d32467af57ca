use Rattle.sessions.proofs.Taken.{takes_own, takes_still}
use Rattle.sessions.proofs.laws.own_stamps_are_taken.Goals as goal

pub returns-clause-takes : goal.returns-clause-takes
returns-clause-takes c = takes_own

pub returns-clause-stays : goal.returns-clause-stays
returns-clause-stays c = takes_still
