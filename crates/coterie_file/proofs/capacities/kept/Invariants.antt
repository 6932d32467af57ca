use Rattle.std.proofs.Common.{◌≡◌, take}
use Rattle.coterie_file.proofs.capacities.kept.Given as goal

abbrev pub invariant-loop-number : goal.invariant-loop-number
invariant-loop-number l = l.kept.items ≡ take l.number-index l.numbers
