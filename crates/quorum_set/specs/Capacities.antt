-- Capacities of voters. A voter of capacity 2 may be asked twice as often as one of capacity 1.
use Rattle.std.specs.Prelude.{ℕ, ◌≡◌, ◌≤◌, Bool, ◌==◌, List, length, map}
use Rattle.std.specs.List.{All, list_all, range_with_len}
use Rattle.numbers.specs.Bounds.{max_capacity}

-- a capacity is 1 to 1000
abbrev pub IsCapacity : ℕ → Type 0
IsCapacity c = (1 ≤ c) × (c ≤ max_capacity)

-- one capacity for each of n voters, in the order of their numbers
pub record AreCapacities (capacities : List ℕ) (n : ℕ) : Type 0 where
  pub one_each : length capacities ≡ n
  pub in_range : All IsCapacity capacities

-- capacity 1 for each of n voters
abbrev pub unit_capacities : ℕ → List ℕ
unit_capacities n = map (λ i. 1) (range_with_len 0 n)

-- whether each of the capacities is 1
abbrev pub are_unit : List ℕ → Bool
are_unit capacities = list_all (λ c. c == 1) capacities
