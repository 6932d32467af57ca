-- What a coterie bears: sets of voters that may fail, and what is left (Naor and Wool, SIAM J. Comput. 27(2), 1998, on
-- resilience).
use Rattle.std.specs.Prelude.{◌≡◌, ℕ, ◌<◌, ◌≤◌, ◌||◌, List, [], true, false, filter, if◌then◌else◌, length, slice_index_or}
use Rattle.std.specs.List.{All}
use Rattle.numbers.specs.Sets.{has, meet, within, IsSet}
use Rattle.numbers.specs.Sums.{sum_below}
use Rattle.quorum_set.specs.Coteries.{QuorumSystem, are_disjoint}

-- The set has a common member with each quorum. If all its members fail, no quorum is left.
abbrev pub MeetsEach : List (List ℕ) → List ℕ → Type 0
MeetsEach quorums set = (j : ℕ) → j < length quorums → meet set (slice_index_or quorums j []) ≡ true

-- some quorum has no member among the failed voters
abbrev pub Bears : List (List ℕ) → List ℕ → Type 0
Bears quorums failed = (j : ℕ) × (j < length quorums) × (meet failed (slice_index_or quorums j []) ≡ false)

-- the quorums without a failed member, over the same voters
abbrev pub system_without : List ℕ → QuorumSystem → QuorumSystem
system_without failed s = record { voters = s.voters; quorums = filter (are_disjoint failed) s.quorums }

-- a set of voters that has a common member with each quorum
pub record IsTransversal (s : QuorumSystem) (set : List ℕ) : Type 0 where
  pub is_set : IsSet set
  pub voters : All (λ i. i < s.voters) set
  pub meets : MeetsEach s.quorums set

-- no set that meets each quorum has fewer members
abbrev pub IsSmallest : List (List ℕ) → List ℕ → Type 0
IsSmallest quorums set = (other : List ℕ) → IsSet other → MeetsEach quorums other → length set ≤ length other

-- no set that meets each quorum, has all of the chosen members and none of the barred ones, has fewer members
abbrev pub IsSmallestWith : List (List ℕ) → List ℕ → List ℕ → List ℕ → Type 0
IsSmallestWith quorums chosen barred set =
    (other : List ℕ) → IsSet other → within chosen other ≡ true → meet barred other ≡ false
    → MeetsEach quorums other → length set ≤ length other

-- how many of n voters are neither chosen nor barred
abbrev pub undecided : ℕ → List ℕ → List ℕ → ℕ
undecided n chosen barred = sum_below (λ i. if has chosen i || has barred i then 0 else 1) n
