use Rattle.claims.proofs.ClaimLemmas.{by_one}
use Rattle.claims.proofs.laws.epochs_are_claimed_by_one.Goals as goal

pub returns : goal.returns
returns c = by_one
