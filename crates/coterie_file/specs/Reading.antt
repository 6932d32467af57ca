-- The coterie that a text describes.
use Rattle.std.specs.Prelude.{◌≡◌, ℕ, Bool, false, not, ◌==◌, List, [], length, map, position, Option, None, Some, Result, Ok, All, Contains, option_map, is_some}
use Rattle.std.specs.List.{list_any, list_all}
use Rattle.std.specs.Option.{option_or}
use Rattle.quorum_set.specs.Capacities.{AreCapacities}
use Rattle.quorum_set.specs.Coteries.{QuorumSystem, IsCoterie, first_fault}
use Rattle.numbers.specs.Sets.{set_where}
use Rattle.coterie_file.specs.Answers.{unless, ◌>>=◌}
use Rattle.coterie_file.specs.Capacities.{capacities_fault}
use Rattle.coterie_file.specs.Lists.{NameLists, lists_at}
use Rattle.coterie_file.specs.Named.{NamedSystem}
use Rattle.coterie_file.specs.Names.{has_name, number_of, first_repeat, names_fault, AllDiffer, AreNames}
use Rattle.coterie_file.specs.declared.fault.FileFault.{FileFault}
use Rattle.coterie_file.specs.declared.fault.FileFault.TheVariants.{UnknownName, RepeatedMember, Coterie}

-- whether this is the number i
abbrev pub is_number : Option ℕ → ℕ → Bool
is_number None i = false
is_number (Some j) i = j == i

-- the set of the numbers of these members
abbrev pub quorum_of : List (List ℕ) → List (List ℕ) → List ℕ
quorum_of names members = set_where (λ i. list_any (λ name. is_number (number_of names name) i) members)

-- a voter for each name, and a quorum for each list of members
abbrev pub system_of : NameLists → QuorumSystem
system_of lists = record { voters = length lists.names; quorums = map (quorum_of lists.names) lists.quorums }

-- the first fault of the lists; each fault is looked for in the whole text before the next one
abbrev pub lists_fault : NameLists → Option FileFault
lists_fault lists =
    option_or (names_fault lists.names)
    (option_or
    (option_map UnknownName (position (λ members. not (list_all (has_name lists.names) members)) lists.quorums))
    (option_or (option_map RepeatedMember (position (λ members. is_some (first_repeat [] members)) lists.quorums))
    (option_or (capacities_fault (length lists.names) lists.capacities)
    (option_map Coterie (first_fault (system_of lists).voters (system_of lists).quorums)))))

-- the system of the lists, with its names and capacities
abbrev pub named_of : NameLists → NamedSystem
named_of lists = record { system = system_of lists; names = lists.names; capacities = lists.capacities }

-- the coterie of the lists, or their first fault
abbrev pub coterie_in : NameLists → Result NamedSystem FileFault
coterie_in lists = unless (lists_fault lists) (named_of lists)

-- the coterie that a text describes, or the first fault
abbrev pub coterie_at : List ℕ → Result NamedSystem FileFault
coterie_at text = lists_at text >>= coterie_in

-- The lists have no fault: all names are good and differ, each quorum lists names of voters and
-- none of them twice, there is one capacity for each voter, and the quorums are a coterie.
pub record ListsCoterie (lists : NameLists) : Type 0 where
  pub names : AreNames lists.names
  pub known : All (λ members. All (Contains lists.names) members) lists.quorums
  pub once : All AllDiffer lists.quorums
  pub capacities : AreCapacities lists.capacities (length lists.names)
  pub coterie : IsCoterie (system_of lists)

-- the text describes this coterie with these names and capacities
abbrev pub Describes : List ℕ → NamedSystem → Type 0
Describes text n =
    (lists : NameLists) × (lists_at text ≡ Ok lists) × ListsCoterie lists × (n ≡ named_of lists)
