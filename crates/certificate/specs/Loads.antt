-- Sums of weights: of the quorums with a voter, and of a quorum's members.
use Rattle.std.specs.Prelude.{ℕ, ◌+◌, List, [], ◌∷◌, sum_by, slice_index, if◌then◌else◌}
use Rattle.numbers.specs.Sets.{has}

-- the sum of the weights of the quorums with this voter
abbrev pub weight_on : ℕ → List (List ℕ) → List ℕ → ℕ
weight_on i [] weights = 0
weight_on i (q ∷ qs) [] = 0
weight_on i (q ∷ qs) (a ∷ weights) = (if has q i then a else 0) + weight_on i qs weights

-- the sum of the weights of a quorum's members
abbrev pub weight_within : List ℕ → List ℕ → ℕ
weight_within weights q = sum_by (λ i. slice_index weights i) q
