use Rattle.lock_node.proofs.Asked.{reaches}
use Rattle.lock_node.proofs.laws.letters_reach_who_asked.Goals as goal

pub returns : goal.returns
returns c = reaches
