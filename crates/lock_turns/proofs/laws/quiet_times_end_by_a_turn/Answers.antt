use Rattle.lock_turns.proofs.Turns.{ended, not_ended}
use Rattle.lock_turns.proofs.laws.quiet_times_end_by_a_turn.Goals as goal

pub returns-clause-evicts : goal.returns-clause-evicts
returns-clause-evicts c = ended

pub returns-clause-stays : goal.returns-clause-stays
returns-clause-stays c = not_ended
