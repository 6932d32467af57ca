use Rattle.lease_clock.proofs.LeaseLemmas.{has_its_grant}
use Rattle.lease_clock.proofs.laws.who_works_has_its_grant.Goals as goal

pub returns : goal.returns
returns c = has_its_grant
