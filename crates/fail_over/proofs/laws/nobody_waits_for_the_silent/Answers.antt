use Rattle.fail_over.proofs.ChoiceLemmas.{goes_on, not_stuck}
use Rattle.fail_over.proofs.laws.nobody_waits_for_the_silent.Goals as goal

pub returns-clause-stuck : goal.returns-clause-stuck
returns-clause-stuck c = not_stuck

pub returns-clause-at_once : goal.returns-clause-at_once
returns-clause-at_once c = goes_on
