use Rattle.std.proofs.Common.{◌≡◌, length}
use Rattle.quorum_set.specs.Counts.{count_of}
use Rattle.dealer.specs.Accounts.{values_below}
use Rattle.show_figures.proofs.account.counts_of_voters.Given as goal

abbrev pub invariant-loop-voter : goal.invariant-loop-voter
invariant-loop-voter l = record {
  so_far : l.counts.items ≡ values_below l.voter (λ i. count_of l.coterie i l.list);
  long : length l.counts.items ≡ l.voter;
}
