-- Weights that a search for losses may find.
use Rattle.std.specs.Prelude.{◌≡◌, ℕ, ◌+◌, ◌*◌, ◌≤◌, List, true}
use Rattle.divisor.specs.Gcd.{lowest_terms}
use Rattle.quorum_set.specs.Coteries.{QuorumSystem}
use Rattle.certificate.specs.Bounds.{IsRival}
use Rattle.certificate.specs.Certificates.{Weighted, AreWeights, cycle_len, load_of}
use Rattle.certificate.specs.Ratios.{IsAtMost}
use Rattle.failures.specs.Failures.{system_without}
use Rattle.losses.specs.declared.failure.Failure.{Failure}

-- weights of this coterie and these capacities, with a cycle of at most so many tickets and a load that
-- is at most the limit
pub record AreWithin (s : QuorumSystem) (capacities : List ℕ) (most : ℕ) (limit : ℕ × ℕ) (w : Weighted) : Type 0 where
  pub system : w.system ≡ s
  pub same_capacities : w.capacities ≡ capacities
  pub weights : AreWeights w
  pub short : cycle_len w ≤ most
  pub load : IsAtMost (load_of w) limit

-- so many thousandths above the load, in lowest terms
abbrev pub limit_above : ℕ → Weighted → ℕ × ℕ
limit_above thousandths w = lowest_terms ((load_of w).0 * (1000 + thousandths)) ((load_of w).1 * 1000)

-- The best load of a failure is that of some weights of the quorums that are left, for these capacities. If
-- the failure says so, no weights of them have a smaller one.
pub record IsPlanned (s : QuorumSystem) (capacities : List ℕ) (failure : Failure) : Type 0 where
  pub weights : Weighted
  pub system : weights.system ≡ system_without failure.down s
  pub same_capacities : weights.capacities ≡ capacities
  pub are : AreWeights weights
  pub load : failure.best ≡ load_of weights
  pub least : failure.is_best ≡ true → (v : Weighted) → IsRival weights v → IsAtMost failure.best (load_of v)
