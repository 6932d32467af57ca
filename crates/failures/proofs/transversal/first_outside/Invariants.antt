use Rattle.std.proofs.Common.{◌≡◌, true, take, All}
use Rattle.numbers.specs.Sets.{has}
use Rattle.failures.proofs.transversal.first_outside.Given as goal

abbrev pub invariant-loop-i : goal.invariant-loop-i
invariant-loop-i l = All (λ i. has l.barred i ≡ true) (take l.i-index l.i-items)
