use Rattle.leases.proofs.Guards.{have_voters}
use Rattle.leases.proofs.laws.worlds_have_voters.Goals as goal

pub returns : goal.returns
returns c = have_voters c.parts_keep_their_rules.ensures.clients c.parts_keep_their_rules.ensures.voters
