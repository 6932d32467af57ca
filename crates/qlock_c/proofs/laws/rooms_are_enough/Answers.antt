use Rattle.qlock_c.proofs.LineLengths.{clients_fit, voters_fit}
use Rattle.qlock_c.proofs.laws.rooms_are_enough.Goals as goal

pub returns-clause-voters : goal.returns-clause-voters
returns-clause-voters c = voters_fit

pub returns-clause-clients : goal.returns-clause-clients
returns-clause-clients c = clients_fit
