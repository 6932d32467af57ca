use Rattle.std.proofs.Common.{◌≡◌, take}
use Rattle.numbers.specs.Sets.{has, set_where}
use Rattle.construct.proofs.lists.set_of.Given as goal

abbrev pub invariant-loop-member : goal.invariant-loop-member
invariant-loop-member l = l.set ≡ set_where (has (take l.member-index l.members))
