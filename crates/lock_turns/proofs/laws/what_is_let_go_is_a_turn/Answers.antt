use Rattle.lock_turns.proofs.Turns.{let_go}
use Rattle.lock_turns.proofs.laws.what_is_let_go_is_a_turn.Goals as goal

pub returns : goal.returns
returns c = let_go
