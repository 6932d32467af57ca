use Rattle.fail_over.proofs.ChoiceLemmas.{all_get_their_own, gets_its_own, whole_cycle}
use Rattle.fail_over.proofs.laws.the_plan_is_kept.Goals as goal

pub returns-clause-own : goal.returns-clause-own
returns-clause-own c = gets_its_own

pub returns-clause-all : goal.returns-clause-all
returns-clause-all c = all_get_their_own

pub returns-clause-cycle : goal.returns-clause-cycle
returns-clause-cycle c = whole_cycle
