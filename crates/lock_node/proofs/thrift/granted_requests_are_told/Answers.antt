use Rattle.lock_node.proofs.LeavingLemmas.{granted_told}
use Rattle.lock_node.proofs.thrift.granted_requests_are_told.Goals as goal

pub returns : goal.returns
returns c = granted_told
