use Rattle.lock_node.proofs.LeavingLemmas.{repeated_told}
use Rattle.lock_node.proofs.thrift.repeated_requests_need_no_save.Goals as goal

pub returns : goal.returns
returns c = repeated_told
