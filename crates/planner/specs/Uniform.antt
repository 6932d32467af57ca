-- Uniform coteries. For these, all weights 1 are a certificate if all voters have the same capacity.
use Rattle.std.specs.Prelude.{◌≡◌, ℕ, ◌<◌, List, length, count_by, replicate}
use Rattle.std.specs.List.{All}
use Rattle.numbers.specs.Sets.{has}
use Rattle.quorum_set.specs.Coteries.{QuorumSystem}
use Rattle.certificate.specs.Certificates.{Weighted}
use Rattle.planner.specs.declared.fault.PlannerFault.{PlannerFault}
use Rattle.planner.specs.declared.fault.PlannerFault.TheVariants.{NoPlan, OutOfMemory}

-- how many quorums have this voter
abbrev pub degree_of : QuorumSystem → ℕ → ℕ
degree_of s i = count_by (λ q. has q i) s.quorums

-- All quorums have one size, and all voters are in equally many quorums (Naor and Wool, SIAM J.
-- Comput. 27(2), 1998, on fair systems).
pub record IsUniform (s : QuorumSystem) : Type 0 where
  pub size : ℕ
  pub degree : ℕ
  pub quorums : All (λ q. length q ≡ size) s.quorums
  pub voters : (i : ℕ) → i < s.voters → degree_of s i ≡ degree

-- all voters have the same capacity
abbrev pub AreEqual : List ℕ → Type 0
AreEqual capacities = (c : ℕ) × All (λ own. own ≡ c) capacities

-- the number 1, n times
abbrev pub ones : ℕ → List ℕ
ones n = replicate n 1

-- all weights 1
abbrev pub all_ones : QuorumSystem → List ℕ → Weighted
all_ones s capacities =
    record {
      system = s;
      capacities = capacities;
      quorum_weights = ones (length s.quorums);
      voter_weights = ones s.voters;
    }

-- the fault is possible for this coterie and these capacities: `OutOfMemory` for any, `NoPlan` not
-- for a uniform coterie whose voters have the same capacity
abbrev pub IsWarranted : QuorumSystem → List ℕ → PlannerFault → Type 0
IsWarranted s capacities OutOfMemory = Unit {0}
IsWarranted s capacities (NoPlan cause) = ¬ (IsUniform s × AreEqual capacities)
