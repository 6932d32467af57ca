-- Capacities that a text lists.
use Rattle.std.specs.Prelude.{ℕ, Bool, not, ◌&&◌, ◌==◌, nat_le, if◌then◌else◌, List, length, position, Option, Some, option_map}
use Rattle.numbers.specs.Bounds.{max_capacity}
use Rattle.coterie_file.specs.declared.fault.FileFault.{FileFault}
use Rattle.coterie_file.specs.declared.fault.FileFault.TheVariants.{CapacityCount, BadCapacity}

-- `IsCapacity` as a test
abbrev pub is_capacity : ℕ → Bool
is_capacity c = nat_le 1 c && nat_le c max_capacity

-- the first fault of the capacities of n voters
abbrev pub capacities_fault : ℕ → List ℕ → Option FileFault
capacities_fault n capacities =
    if length capacities == n then option_map BadCapacity (position (λ c. not (is_capacity c)) capacities)
    else Some (CapacityCount (length capacities))
