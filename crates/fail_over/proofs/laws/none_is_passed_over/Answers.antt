use Rattle.fail_over.proofs.ChoiceLemmas.{passes_full, passes_hindered}
use Rattle.fail_over.proofs.laws.none_is_passed_over.Goals as goal

pub returns-clause-hindered : goal.returns-clause-hindered
returns-clause-hindered c = passes_hindered

pub returns-clause-full : goal.returns-clause-full
returns-clause-full c = passes_full
