use Rattle.generations.proofs.TurnExample.{first_has_turn, keeps, limits, settled, third_has_turn}
use Rattle.generations.proofs.laws.two_passes_have_turns.Goals as goal

pub returns : goal.returns
returns c = (limits, keeps, settled, first_has_turn, third_has_turn)
