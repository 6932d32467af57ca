use Rattle.lock_node.proofs.LockLemmas.{locks_after}
use Rattle.lock_node.proofs.laws.locks_run_as_nodes.Goals as goal

pub returns : goal.returns
returns c = locks_after
