use Rattle.construct.proofs.CyclicLemmas.{length-cyclic_quorums}
use Rattle.construct.proofs.laws.cyclic_coteries_have_a_quorum_for_each_shift.Goals as goal

pub returns : goal.returns
returns c = length-cyclic_quorums
