use Rattle.vote_leases.proofs.Told.{one_told}
use Rattle.vote_leases.proofs.laws.at_most_one_is_told_to_work.Goals as goal

pub returns : goal.returns
returns c = one_told
