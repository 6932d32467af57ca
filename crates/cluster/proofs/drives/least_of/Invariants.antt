use Rattle.std.specs.Prelude.{take}
use Rattle.cluster.specs.Drives.{IsLeastOf}
use Rattle.cluster.proofs.drives.least_of.Given as goal

abbrev pub invariant-loop-member : goal.invariant-loop-member
invariant-loop-member g l = IsLeastOf (take l.member-index l.members) l.least
