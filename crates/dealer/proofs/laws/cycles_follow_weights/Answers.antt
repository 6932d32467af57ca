use Rattle.dealer.proofs.CycleLemmas.{length-cycle_of, times-cycle_of}
use Rattle.dealer.proofs.TurnLemmas.{GoesByTurns-cycle_of}
use Rattle.dealer.proofs.laws.cycles_follow_weights.Goals as goal

pub returns-clause-len : goal.returns-clause-len
returns-clause-len c = length-cycle_of

pub returns-clause-shares : goal.returns-clause-shares
returns-clause-shares c = times-cycle_of

pub returns-clause-turns : goal.returns-clause-turns
returns-clause-turns c = GoesByTurns-cycle_of
