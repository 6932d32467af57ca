use Rattle.std.proofs.Common.{rules}
use Rattle.construct.specs.Wheel.{wheel_quorums}
use Rattle.construct.proofs.shapes.wheel.quorums_of.Goals as goal

pub returns : goal.returns
unfolding wheel_quorums
returns c = search rules
