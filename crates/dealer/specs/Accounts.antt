-- Accounts: how often a list of tickets uses each quorum and each voter, and its ratio.
use Rattle.std.specs.Prelude.{◌≡◌, ℕ, ◌*◌, ◌<◌, ◌≤◌, List, length, map}
use Rattle.std.specs.List.{All, range_with_len}
use Rattle.quorum_set.specs.Counts.{count_of, busiest_of}
use Rattle.numbers.specs.Counts.{times}
use Rattle.numbers.specs.Sums.{AreAllBelow}
use Rattle.divisor.specs.Gcd.{lowest_terms}
use Rattle.certificate.specs.Certificates.{Weighted, cycle_len, cycle_ratio}
use Rattle.certificate.specs.Ratios.{ratio_of}
use Rattle.dealer.specs.Cycles.{quorum_of_ticket}
use Rattle.dealer.specs.declared.account.Account.{Account}

-- the list of the values of f at the numbers below n
abbrev pub values_below : ℕ → (ℕ → ℕ) → List ℕ
values_below n f = map f (range_with_len 0 n)

-- the quorums that the tickets stand for, in the tickets' order
abbrev pub quorums_named : Weighted → List ℕ → List ℕ
quorums_named w tickets = map (quorum_of_ticket w) tickets

-- how many tickets there are, how often each quorum and each voter is used, how often the busiest
-- voter is, and the ratio: the greatest count of a voter, divided by its capacity, in lowest terms
abbrev pub account_of : Weighted → List ℕ → Account
account_of w tickets =
    let named = quorums_named w tickets in
    record {
      drawn = length tickets;
      quorums = values_below (length w.system.quorums) (λ j. times j named);
      voters = values_below w.system.voters (λ i. count_of w.system i named);
      busiest = busiest_of w.system named;
      ratio = ratio_of w.system w.capacities named;
    }

-- the tickets fill k cycles: they are the numbers below k times the cycle's length, each once, in
-- any order
abbrev pub IsWholeCycles : Weighted → ℕ → List ℕ → Type 0
IsWholeCycles w k tickets = AreAllBelow tickets (k * cycle_len w)

-- the ratio of k cycles: k times the ratio of one, in lowest terms
abbrev pub ratio_of_cycles : Weighted → ℕ → ℕ × ℕ
ratio_of_cycles w k = lowest_terms (k * (cycle_ratio w).0) (cycle_ratio w).1

-- no list of n quorums has a smaller ratio than this
abbrev pub IsLeastRatio : Weighted → ℕ → ℕ × ℕ → Type 0
IsLeastRatio w n ratio =
    (list : List ℕ) → length list ≡ n → All (λ j. j < length w.system.quorums) list
    → ratio.0 * (ratio_of w.system w.capacities list).1 ≤ (ratio_of w.system w.capacities list).0 * ratio.1

-- no list of n quorums uses its busiest voter less often than this
abbrev pub IsLeastBusiest : Weighted → ℕ → ℕ → Type 0
IsLeastBusiest w n count =
    (list : List ℕ) → length list ≡ n → All (λ j. j < length w.system.quorums) list → count ≤ busiest_of w.system list
