use Rattle.lock_node.proofs.ThriftLemmas.{least_turns}
use Rattle.lock_node.proofs.thrift.unchanged_votes_need_no_save.Goals as goal

pub returns : goal.returns
returns c = least_turns
