-- The bound of weights: how far their load is above the smallest possible one, at most.
use Rattle.std.specs.Prelude.{◌≡◌, ℕ, ◌*◌, ◌<◌, ◌≤◌, List, length, slice_index}
use Rattle.std.specs.List.{All}
use Rattle.divisor.specs.Gcd.{lowest_terms}
use Rattle.quorum_set.specs.Counts.{count_of}
use Rattle.certificate.specs.Certificates.{Weighted, capacity_total, cycle_len, lightest_quorum, load_of}
use Rattle.certificate.specs.Ratios.{IsAtMost}

-- The bound, in lowest terms: the weight of the lightest quorum, divided by the sum of the voters'
-- weights, each times the voter's capacity. No load is below it, by the duality of linear programs
-- (Naor and Wool, SIAM J. Comput. 27(2), 1998).
abbrev pub bound_of : Weighted → ℕ × ℕ
bound_of w = lowest_terms (lightest_quorum w) (capacity_total w)

-- the second weights are of the same coterie and capacities, one for each quorum, and not all 0
pub record IsRival (w v : Weighted) : Type 0 where
  pub system : v.system ≡ w.system
  pub capacities : v.capacities ≡ w.capacities
  pub quorums : length v.quorum_weights ≡ length v.system.quorums
  pub some_quorum : 0 < cycle_len v

-- no weights of the same coterie and capacities have a load below the bound
abbrev pub IsBounded : Weighted → Type 0
IsBounded w = (v : Weighted) → IsRival w v → IsAtMost (bound_of w) (load_of v)

-- In each list of quorum numbers some voter's count, divided by its capacity, is at least the
-- bound times the length of the list.
abbrev pub BearsBound : Weighted → Type 0
BearsBound w =
    (list : List ℕ) → All (λ j. j < length w.system.quorums) list
    → (i : ℕ) × (i < w.system.voters)
    × (length list * lightest_quorum w * slice_index w.capacities i ≤ count_of w.system i list * capacity_total w)
