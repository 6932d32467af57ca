use Rattle.lock_node.proofs.GrantLemmas.{new_told}
use Rattle.lock_node.proofs.thrift.new_grants_are_told.Goals as goal

pub returns : goal.returns
returns c = new_told
