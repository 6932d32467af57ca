-- Majorities: the minimal sets of more than half of the voters (Garcia-Molina and Barbara, JACM
-- 32(4), 1985).
use Rattle.std.specs.Prelude.{ℕ, ◌+◌, ◌/◌, ◌==◌, List, [], ◌∷◌, ◌++◌, Result, Ok, map, nat_lt, zero, suc}
use Rattle.quorum_set.specs.Coteries.{QuorumSystem}
use Rattle.construct.specs.Answers.{check_sizes}
use Rattle.construct.specs.declared.fault.ConstructFault.{ConstructFault}

-- the sets of k of the n numbers from low on, in lexicographic order: first those with low, then
-- those without
unfoldable pub sets_from : ℕ → ℕ → ℕ → List (List ℕ)
sets_from low n zero = [] ∷ []
sets_from low zero (suc k) = []
sets_from low (suc n) (suc k) = map (λ s. low ∷ s) (sets_from (low + 1) n k) ++ sets_from (low + 1) n (suc k)

-- the number of ways to choose k of n, by Pascal's triangle
unfoldable pub choose : ℕ → ℕ → ℕ
choose n zero = 1
choose zero (suc k) = 0
choose (suc n) (suc k) = choose n k + choose n (suc k)

-- the sets of voters / 2 + 1 of the voters, rounded down
abbrev pub majority_quorums : ℕ → List (List ℕ)
majority_quorums voters = sets_from 0 voters (voters / 2 + 1)

-- the majorities of these voters
abbrev pub majority_system : ℕ → QuorumSystem
majority_system voters = record { voters = voters; quorums = majority_quorums voters }

-- the majorities of these voters, or the fault of their number
abbrev pub majority_at : ℕ → Result QuorumSystem ConstructFault
majority_at voters = check_sizes (voters == 0) (nat_lt 14 voters) (Ok (majority_system voters))
