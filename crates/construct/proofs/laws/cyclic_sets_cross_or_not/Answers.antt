use Rattle.construct.proofs.CyclicLemmas.{cyclic_fault_of}
use Rattle.construct.proofs.laws.cyclic_sets_cross_or_not.Goals as goal

pub returns : goal.returns
returns c = λ n base few good. (cyclic_fault_of n base few good).1
