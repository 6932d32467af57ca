-- Coteries with a name for each voter.
use Rattle.std.specs.Prelude.{◌≡◌, ℕ, List, ◌++◌, length, map, codes, decimal, Result}
use Rattle.std.specs.List.{range_with_len}
use Rattle.quorum_set.specs.Capacities.{AreCapacities, unit_capacities}
use Rattle.quorum_set.specs.Coteries.{QuorumSystem, IsCoterie}
use Rattle.coterie_file.specs.Answers.{unless}
use Rattle.coterie_file.specs.Capacities.{capacities_fault}
use Rattle.coterie_file.specs.Names.{AreNames, names_fault}
use Rattle.coterie_file.specs.declared.fault.FileFault.{FileFault}

-- quorums over some voters, and the names and capacities of the voters by number
pub record NamedSystem : Type 0 where
  pub system : QuorumSystem
  pub names : List (List ℕ)
  pub capacities : List ℕ

-- a coterie whose voters have one name each, all different, and one capacity each
pub record IsNamed (n : NamedSystem) : Type 0 where
  pub coterie : IsCoterie n.system
  pub one_each : length n.names ≡ n.system.voters
  pub names : AreNames n.names
  pub capacities : AreCapacities n.capacities n.system.voters

-- the system with these names and capacity 1 for each voter, or the first fault of the names
abbrev pub with_names : QuorumSystem → List (List ℕ) → Result NamedSystem FileFault
with_names system names =
    unless (names_fault names) (record { system = system; names = names; capacities = unit_capacities system.voters })

-- the same with these capacities, or their first fault
abbrev pub with_capacities : NamedSystem → List ℕ → Result NamedSystem FileFault
with_capacities n capacities =
    unless (capacities_fault n.system.voters capacities) (record n { capacities = capacities })

-- v0, v1, .. for n voters
abbrev pub numbered_names : ℕ → List (List ℕ)
numbered_names n = map (λ i. codes "v" ++ decimal i) (range_with_len 0 n)
