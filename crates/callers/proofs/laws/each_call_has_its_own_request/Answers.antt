use Rattle.callers.proofs.CallLemmas.{own_requests}
use Rattle.callers.proofs.laws.each_call_has_its_own_request.Goals as goal

pub returns : goal.returns
returns c = own_requests
