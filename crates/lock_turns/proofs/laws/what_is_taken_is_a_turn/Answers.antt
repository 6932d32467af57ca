use Rattle.lock_turns.proofs.Turns.{taken}
use Rattle.lock_turns.proofs.laws.what_is_taken_is_a_turn.Goals as goal

pub returns : goal.returns
returns c = taken
