-- The account of a list of quorums.
use Rattle.std.specs.Prelude.{ℕ, List, [], length, slice_index}
use Rattle.numbers.specs.Counts.{greatest_below}
use Rattle.quorum_set.specs.Coteries.{QuorumSystem}
use Rattle.quorum_set.specs.Counts.{count_of}
use Rattle.certificate.specs.Certificates.{Weighted}
use Rattle.certificate.specs.Ratios.{greatest_ratio}
use Rattle.dealer.specs.Accounts.{values_below}
use Rattle.dealer.specs.declared.account.Account.{Account}

-- how often a list of quorums uses each voter
abbrev pub counts_of_list : QuorumSystem → List ℕ → List ℕ
counts_of_list s list = values_below s.voters (λ i. count_of s i list)

-- how often a list of quorums uses each voter, the greatest of these counts, and the ratio: the greatest
-- quotient of a count and the voter's capacity, in lowest terms; the counts of the quorums are left out
abbrev pub account_of_list : Weighted → List ℕ → Account
account_of_list w list =
    let voters = counts_of_list w.system list in
    record {
      drawn = length list;
      quorums = [];
      voters = voters;
      busiest = greatest_below (length voters) (λ i. slice_index voters i);
      ratio = greatest_ratio (length voters) w.capacities (λ i. slice_index voters i);
    }
