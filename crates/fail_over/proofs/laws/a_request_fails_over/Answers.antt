use Rattle.fail_over.proofs.Example.{it_waits, no_others_then, others_then}
use Rattle.fail_over.proofs.laws.a_request_fails_over.Goals as goal

pub returns-clause-stuck : goal.returns-clause-stuck
returns-clause-stuck c = it_waits

pub returns-clause-asks : goal.returns-clause-asks
returns-clause-asks c = others_then

pub returns-clause-no_others : goal.returns-clause-no_others
returns-clause-no_others c = no_others_then
