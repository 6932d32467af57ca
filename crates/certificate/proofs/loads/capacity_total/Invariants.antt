use Rattle.std.proofs.Common.{◌≡◌, ◌*◌, ◌≤◌, sum, take, get_or}
use Rattle.numbers.specs.Sums.{sum_below}
use Rattle.certificate.proofs.loads.capacity_total.Given as goal

abbrev pub invariant-loop-i : goal.invariant-loop-i
invariant-loop-i l = (l.total ≡ sum_below (λ i. get_or l.weights i 0 * get_or l.capacities i 0) l.i) × (l.total ≤ 1000 * sum (take l.i l.weights))
