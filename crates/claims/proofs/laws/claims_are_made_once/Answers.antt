use Rattle.claims.proofs.ClaimLemmas.{made_once}
use Rattle.claims.proofs.laws.claims_are_made_once.Goals as goal

pub returns : goal.returns
returns c = made_once
