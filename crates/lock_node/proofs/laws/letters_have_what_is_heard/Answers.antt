use Rattle.lock_node.proofs.LockLemmas.{letters_heard}
use Rattle.lock_node.proofs.laws.letters_have_what_is_heard.Goals as goal

pub returns : goal.returns
returns c = letters_heard
