use Rattle.lock_turns.proofs.Turns.{not_doubtful}
use Rattle.lock_turns.proofs.laws.nothing_is_doubtful_then.Goals as goal

pub returns : goal.returns
returns c = not_doubtful
