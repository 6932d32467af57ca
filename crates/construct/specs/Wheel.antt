-- Wheels: the hub with each voter of the rim, and the rim (Naor and Wool, SIAM J. Comput. 27(2),
-- 1998).
use Rattle.std.specs.Prelude.{ℕ, ◌+◌, ◌==◌, ◌||◌, ◌&&◌, List, [], ◌∷◌, ◌++◌, Result, Ok, map, nat_le, nat_lt}
use Rattle.std.specs.List.{range_with_len}
use Rattle.quorum_set.specs.Coteries.{QuorumSystem}
use Rattle.numbers.specs.Sets.{set_where}
use Rattle.construct.specs.Answers.{check_sizes}
use Rattle.construct.specs.declared.fault.ConstructFault.{ConstructFault}

-- the hub, voter 0, with voter i of the rim
abbrev pub spoke : ℕ → List ℕ
spoke i = set_where (λ v. (v == 0) || (v == i))

-- the rim: voters 1 to `rims`
abbrev pub rim : ℕ → List ℕ
rim rims = set_where (λ v. nat_le 1 v && nat_le v rims)

-- each spoke, and then the rim
unfoldable pub wheel_quorums : ℕ → List (List ℕ)
wheel_quorums rims = map spoke (range_with_len 1 rims) ++ rim rims ∷ []

-- the wheel with `rims` voters on its rim
abbrev pub wheel_system : ℕ → QuorumSystem
wheel_system rims = record { voters = rims + 1; quorums = wheel_quorums rims }

-- the wheel with `rims` voters on its rim, or the fault of its size
abbrev pub wheel_at : ℕ → Result QuorumSystem ConstructFault
wheel_at rims = check_sizes (nat_lt rims 2) (nat_lt 63 rims) (Ok (wheel_system rims))
