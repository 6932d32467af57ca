-- Regret: what voters that are down cost weights, next to the best weights for what is left.
use Rattle.std.specs.Prelude.{◌≡◌, ◌⊎◌, ℕ, ◌+◌, ◌-◌, ◌*◌, ◌/◌, ◌<◌, ◌≤◌, if◌then◌else◌, List, length, sum, sum_by, fold}
use Rattle.std.specs.Int.{div_ceil}
use Rattle.std.specs.List.{All, Any}
use Rattle.divisor.specs.Gcd.{lowest_terms}
use Rattle.numbers.specs.Bounds.{max_cycle}
use Rattle.numbers.specs.Counts.{least_of}
use Rattle.quorum_set.specs.Coteries.{QuorumSystem}
use Rattle.failures.specs.Failures.{Bears}
use Rattle.certificate.specs.Bounds.{IsRival}
use Rattle.certificate.specs.Certificates.{Weighted, capacity_total, load_of}
use Rattle.certificate.specs.Loads.{weight_within}
use Rattle.certificate.specs.Ratios.{IsAtMost, greater_of}
use Rattle.losses.specs.Losses.{is_left, load_left, tickets_left}
use Rattle.losses.specs.declared.failure.Failure.{Failure}

-- the greatest number of a best load or a limit
abbrev pub max_part : ℕ
max_part = 1000000000

-- a fraction above 0 whose parts are small
pub record IsFraction (load : ℕ × ℕ) : Type 0 where
  pub some : 0 < load.0
  pub small : load.0 ≤ max_part
  pub parts : 0 < load.1
  pub small_parts : load.1 ≤ max_part

-- the best load is a fraction above 0 with small parts, and some ticket is left
pub record IsBorne (w : Weighted) (failure : Failure) : Type 0 where
  pub best : IsFraction failure.best
  pub left : 0 < tickets_left failure.down w

-- the load that a failure leaves, divided by the best one, in lowest terms
abbrev pub regret_at : Weighted → Failure → ℕ × ℕ
regret_at w failure =
    lowest_terms ((load_left failure.down w).0 * failure.best.1) ((load_left failure.down w).1 * failure.best.0)

-- the regret of weights: this quotient for the failure of which it is greatest, or 0/1
abbrev pub regret_of : Weighted → List Failure → ℕ × ℕ
regret_of w failures = fold (λ r f. greater_of r (regret_at w f)) (0, 1) failures

-- Bounds

-- The failure leaves a quorum, and costs the weights at least r times the best load: no ticket is left,
-- or the load of the tickets that are left is at least so great.
abbrev pub Regrets : ℕ × ℕ → Weighted → Failure → Type 0
Regrets r w failure =
    Bears w.system.quorums failure.down
    × ((tickets_left failure.down w ≡ 0)
    ⊎ IsAtMost (r.0 * failure.best.0, r.1 * failure.best.1) (load_left failure.down w))

-- All weights of the same coterie and capacities whose load is at most the limit have at least this
-- regret at some failure.
abbrev pub IsRegretBound : ℕ × ℕ → Weighted → ℕ × ℕ → List Failure → Type 0
IsRegretBound r w limit failures =
    (v : Weighted) → IsRival w v → IsAtMost (load_of v) limit → Any (Regrets r v) failures

-- The bound that multipliers show, in millionths, by the duality of linear programs. In the program each
-- failure has a row for each voter: the weights of the quorums that are left and have the voter are at
-- most r times the best load, times the voter's capacity, times the weights of all quorums that are
-- left. A failure's multipliers are those of its rows. The limit has a row for each voter, too.

-- one million: there are so many millionths in 1
abbrev pub million : ℕ
million = 1000000

-- a multiplier for each of n voters, and these sum to at most 1,000,000
pub record AreMultipliers (n : ℕ) (multipliers : List ℕ) : Type 0 where
  pub one_each : length multipliers ≡ n
  pub small : sum multipliers ≤ max_cycle

-- a failure that leaves a quorum, with small numbers and a multiplier for each voter
pub record IsUsable (s : QuorumSystem) (failure : Failure) : Type 0 where
  pub left : Bears s.quorums failure.down
  pub best : IsFraction failure.best
  pub multipliers : AreMultipliers s.voters failure.multipliers.items

-- what a bound is computed from: the limit, its multipliers, and 1 to 5,000 failures
pub record AreUsable (s : QuorumSystem) (limit : ℕ × ℕ) (multipliers : List ℕ) (failures : List Failure) : Type 0 where
  pub is_fraction : IsFraction limit
  pub are_multipliers : AreMultipliers s.voters multipliers
  pub some : 0 < length failures
  pub few : length failures ≤ 5000
  pub each : All (IsUsable s) failures

-- the multipliers, each times its voter's capacity
abbrev pub total_of : Weighted → List ℕ → ℕ
total_of w multipliers = capacity_total (record w { voter_weights = multipliers })

-- what the rows of a failure have for each ticket that is left, in millionths, rounded up: the multipliers,
-- each times the capacity, times the best load
abbrev pub price_of : Weighted → Failure → ℕ
price_of w failure = div_ceil (million * failure.best.0 * total_of w failure.multipliers.items) failure.best.1

-- the sum of the prices of the failures at which the quorum is left
abbrev pub price_at : Weighted → List Failure → List ℕ → ℕ
price_at w failures q = sum_by (λ f. if is_left f.down q then price_of w f else 0) failures

-- the sum of the members' multipliers, over the failures at which the quorum is left
abbrev pub gain_at : List Failure → List ℕ → ℕ
gain_at failures q = sum_by (λ f. if is_left f.down q then weight_within f.multipliers.items q else 0) failures

-- the bound that one quorum shows, in millionths, rounded down; 0 if it shows none
abbrev pub bound_at : Weighted → ℕ × ℕ → List ℕ → List Failure → List ℕ → ℕ
bound_at w limit multipliers failures q =
    million * million * ((gain_at failures q + weight_within multipliers q) * limit.1 - total_of w multipliers * limit.0)
    / (price_at w failures q * limit.1)

-- the bound that multipliers of the limit and of the failures show, in millionths, rounded down: the
-- smallest that a quorum shows
abbrev pub regret_bound : Weighted → ℕ × ℕ → List ℕ → List Failure → ℕ
regret_bound w limit multipliers failures = least_of (bound_at w limit multipliers failures) w.system.quorums
