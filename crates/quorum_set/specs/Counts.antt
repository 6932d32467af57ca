-- How often a list of quorum numbers uses each voter (Naor and Wool, SIAM J. Comput. 27(2), 1998,
-- section 2, for whole numbers).
use Rattle.std.specs.Prelude.{ℕ, List, [], count_by, slice_index_or}
use Rattle.numbers.specs.Sets.{has}
use Rattle.numbers.specs.Counts.{greatest_below}
use Rattle.quorum_set.specs.Coteries.{QuorumSystem}

-- how many entries of the list are quorums with this voter
abbrev pub count_of : QuorumSystem → ℕ → List ℕ → ℕ
count_of s i list = count_by (λ j. has (slice_index_or s.quorums j []) i) list

-- the greatest count of a voter
abbrev pub busiest_of : QuorumSystem → List ℕ → ℕ
busiest_of s list = greatest_below s.voters (λ i. count_of s i list)
