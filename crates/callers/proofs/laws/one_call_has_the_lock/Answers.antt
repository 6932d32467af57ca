use Rattle.callers.proofs.CallLemmas.{one_call}
use Rattle.callers.proofs.laws.one_call_has_the_lock.Goals as goal

pub returns : goal.returns
returns c = one_call
