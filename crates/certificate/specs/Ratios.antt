-- How much voters are used for their capacities: counts divided by capacities, as fractions.
use Rattle.std.specs.Prelude.{ℕ, ◌*◌, ◌≤◌, nat_lt, if◌then◌else◌, List, slice_index, zero, suc}
use Rattle.divisor.specs.Gcd.{lowest_terms}
use Rattle.quorum_set.specs.Coteries.{QuorumSystem}
use Rattle.quorum_set.specs.Counts.{count_of}

-- the first fraction is at most the second; each is a numerator and a denominator
abbrev pub IsAtMost : ℕ × ℕ → ℕ × ℕ → Type 0
IsAtMost r s = r.0 * s.1 ≤ s.0 * r.1

-- the greater of two fractions, each a numerator and a denominator; the first if they are equal
abbrev pub greater_of : ℕ × ℕ → ℕ × ℕ → ℕ × ℕ
greater_of r s = if nat_lt (r.0 * s.1) (s.0 * r.1) then s else r

-- the greatest of the fractions f below n, or 0/1
abbrev pub greatest_fraction : ℕ → (ℕ → ℕ × ℕ) → ℕ × ℕ
greatest_fraction zero f = (0, 1)
greatest_fraction (suc n) f = greater_of (greatest_fraction n f) (f n)

-- the greatest quotient of a voter's count and its capacity, over n voters, in lowest terms; 0/1 if
-- all counts are 0
unfoldable pub greatest_ratio : ℕ → List ℕ → (ℕ → ℕ) → ℕ × ℕ
greatest_ratio n capacities count =
    let top = greatest_fraction n (λ i. (count i, slice_index capacities i)) in
    lowest_terms top.0 top.1

-- the ratio of a list of quorum numbers: the greatest count of a voter, divided by its capacity
abbrev pub ratio_of : QuorumSystem → List ℕ → List ℕ → ℕ × ℕ
ratio_of s capacities list = greatest_ratio s.voters capacities (λ i. count_of s i list)
