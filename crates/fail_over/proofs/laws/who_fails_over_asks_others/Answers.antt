use Rattle.fail_over.proofs.ChoiceLemmas.{asks_others, waits_for_one}
use Rattle.fail_over.proofs.laws.who_fails_over_asks_others.Goals as goal

pub returns-clause-waits : goal.returns-clause-waits
returns-clause-waits c = waits_for_one

pub returns-clause-asks : goal.returns-clause-asks
returns-clause-asks c = asks_others
