use Rattle.std.proofs.Common.{arith}
use Rattle.std.proofs.lemmas.Bool.Decides.{nat_tests}
use Rattle.failures.proofs.FailureLemmas.{spent-all}
use Rattle.failures.proofs.transversal.transversal_of.Goals as goal

pub returns-clause-ends : goal.returns-clause-ends
returns-clause-ends c enough =
    let spent = spent-all _ _ _ _ _ c.empty.ensures c.empty-2.ensures c.improve-voters.ensures.spent in
    grind (arith, nat_tests)
