use Rattle.claims.proofs.ClaimLemmas.{were_given}
use Rattle.claims.proofs.laws.claimed_numbers_were_given.Goals as goal

pub returns : goal.returns
returns c = were_given
