use Rattle.starts.proofs.LawLemmas.{floors, grants_above}
use Rattle.starts.proofs.laws.later_processes_give_above.Goals as goal

pub returns-clause-floor : goal.returns-clause-floor
returns-clause-floor c = floors

pub returns-clause-above : goal.returns-clause-above
returns-clause-above c = grants_above
