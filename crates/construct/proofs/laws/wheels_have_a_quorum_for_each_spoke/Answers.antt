use Rattle.construct.proofs.WheelLemmas.{length-wheel_quorums}
use Rattle.construct.proofs.laws.wheels_have_a_quorum_for_each_spoke.Goals as goal

pub returns : goal.returns
returns c = length-wheel_quorums
