-- The size of the smallest quorum, which Naor and Wool (SIAM J. Comput. 27(2), 1998) call c(S), and the same with capacities.
use Rattle.std.specs.Prelude.{ℕ, List, length}
use Rattle.numbers.specs.Counts.{least_of}
use Rattle.quorum_set.specs.Coteries.{QuorumSystem}
use Rattle.certificate.specs.Loads.{weight_within}

-- the number of members of the smallest quorum
abbrev pub smallest_size : QuorumSystem → ℕ
smallest_size s = least_of length s.quorums

-- the least capacity of a quorum: the sum of its members' capacities
abbrev pub smallest_capacity : QuorumSystem → List ℕ → ℕ
smallest_capacity s capacities = least_of (weight_within capacities) s.quorums
