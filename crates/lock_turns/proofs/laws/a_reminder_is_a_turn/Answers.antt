use Rattle.lock_turns.proofs.Turns.{reminded}
use Rattle.lock_turns.proofs.laws.a_reminder_is_a_turn.Goals as goal

pub returns : goal.returns
returns c = reminded
