use Rattle.std.proofs.Common.{◌≡◌}
use Rattle.certificate.specs.Loads.{weight_on}
use Rattle.dealer.specs.Accounts.{values_below}
use Rattle.dealer.proofs.account.counts_of_voters.Given as goal

abbrev pub invariant-loop-voter : goal.invariant-loop-voter
invariant-loop-voter l = l.voters.items ≡ values_below l.voter (λ i. weight_on i l.coterie.quorums l.counts)
