use Rattle.lock_node.proofs.LockLemmas.{given_out}
use Rattle.lock_node.proofs.laws.letters_are_given_out.Goals as goal

pub returns : goal.returns
returns c = given_out
