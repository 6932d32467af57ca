use Rattle.lock_node.proofs.Example.{begins}
use Rattle.lock_node.proofs.laws.new_voters_begin.Goals as goal

pub returns : goal.returns
returns c = begins
