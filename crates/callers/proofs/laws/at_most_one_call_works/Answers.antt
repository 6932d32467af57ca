use Rattle.callers.proofs.Working.{one_call_works}
use Rattle.callers.proofs.laws.at_most_one_call_works.Goals as goal

pub returns : goal.returns
returns c = one_call_works
