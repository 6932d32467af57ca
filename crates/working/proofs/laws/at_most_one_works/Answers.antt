use Rattle.working.proofs.Working.{one_works}
use Rattle.working.proofs.laws.at_most_one_works.Goals as goal

pub returns : goal.returns
returns c = one_works
