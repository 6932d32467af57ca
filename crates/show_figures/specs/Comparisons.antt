-- The figures by which coteries are compared.
use Rattle.std.specs.Prelude.{◌≡◌, ℕ, List, [], length, slice_index_or, IfNone, IfSome}
use Rattle.numbers.specs.Counts.{greatest_below}
use Rattle.quorum_set.specs.Coteries.{QuorumSystem}
use Rattle.certificate.specs.Bounds.{IsBounded, bound_of}
use Rattle.certificate.specs.Certificates.{AreWeights, Weighted, load_of}
use Rattle.certificate.specs.Ratios.{IsAtMost}
use Rattle.failures.specs.Failures.{MeetsEach, system_without}
use Rattle.losses.specs.Worst.{IsWorst}
use Rattle.losses.specs.declared.one_down.OneDown.{OneDown}
use Rattle.coterie_file.specs.Named.{NamedSystem}
use Rattle.show_figures.specs.declared.comparisons.Loads.{Loads}
use Rattle.show_figures.specs.declared.comparisons.Loss.{Loss}

-- the number of members of the largest quorum
abbrev pub largest_size : QuorumSystem → ℕ
largest_size s = greatest_below (length s.quorums) (λ j. length (slice_index_or s.quorums j []))

-- These are the load and the bound of some weights of a coterie with these capacities. No weights of
-- it have a load below the bound. So if the load is the bound, it is the smallest possible one.
pub record AreLoads (s : QuorumSystem) (given : List ℕ) (loads : Loads) : Type 0 where
  pub weights : Weighted
  pub system : weights.system ≡ s
  pub capacities : weights.capacities ≡ given
  pub are : AreWeights weights
  pub load : loads.load ≡ load_of weights
  pub bound : loads.bound ≡ bound_of weights
  pub bounded : IsBounded weights
  pub above : IsAtMost loads.bound loads.load

-- The loads are those of some weights of a coterie with these capacities. When one voter is down, the same
-- weights leave this at worst.
pub record IsOfWeights (s : QuorumSystem) (given : List ℕ) (loads : Loads) (found : OneDown) : Type 0 where
  pub weights : Weighted
  pub system : weights.system ≡ s
  pub capacities : weights.capacities ≡ given
  pub are : AreWeights weights
  pub load : loads.load ≡ load_of weights
  pub bound : loads.bound ≡ bound_of weights
  pub worst : IsWorst weights found

-- the loads of what is left of a coterie when a group fails, or no quorum is left
pub record IsLoss (named : NamedSystem) (loss : Loss) : Type 0 where
  pub left : IfSome loss.left (AreLoads (system_without loss.group named.system) named.capacities)
  pub none : IfNone loss.left (MeetsEach named.system.quorums loss.group)
