use Rattle.claims.proofs.ClaimLemmas.{above}
use Rattle.claims.proofs.laws.claims_begin_above.Goals as goal

pub returns : goal.returns
returns c = above
