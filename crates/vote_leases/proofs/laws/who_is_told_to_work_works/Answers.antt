use Rattle.vote_leases.proofs.Told.{told_works}
use Rattle.vote_leases.proofs.laws.who_is_told_to_work_works.Goals as goal

pub returns : goal.returns
returns c = told_works
