use Rattle.std.proofs.Common.{◌≡◌, ◌≤◌, sum}
use Rattle.numbers.specs.Counts.{greatest_below}
use Rattle.certificate.specs.Loads.{weight_on}
use Rattle.certificate.proofs.loads.busiest_count.Given as goal

abbrev pub invariant-loop-voter : goal.invariant-loop-voter
invariant-loop-voter l = (l.most ≡ greatest_below l.voter (λ i. weight_on i l.coterie.quorums l.weights)) × (l.most ≤ sum l.weights)
