-- The text that is written for a coterie.
use Rattle.std.specs.Prelude.{ℕ, if◌then◌else◌, List, [], ◌++◌, map, flat_map, codes, decimal}
use Rattle.std.specs.List.{join_by}
use Rattle.quorum_set.specs.Capacities.{are_unit}
use Rattle.coterie_file.specs.Named.{NamedSystem}
use Rattle.coterie_file.specs.Names.{name_at}

-- the name in quotation marks
abbrev pub quote : List ℕ → List ℕ
quote name = codes "\"" ++ (name ++ codes "\"")

-- the names in brackets, with a comma and a space between each two
abbrev pub name_list : List (List ℕ) → List ℕ
name_list names = codes "[" ++ (join_by quote (codes ", ") names ++ codes "]")

-- the line of a quorum: its members' names in ascending order of their numbers
abbrev pub quorum_line : List (List ℕ) → List ℕ → List ℕ
quorum_line names members = codes "  " ++ (name_list (map (name_at names) members) ++ codes ",\n")

-- the line of the capacities, after a line end; it is left out if all capacities are 1
abbrev pub capacity_line : List ℕ → List ℕ
capacity_line capacities =
    if are_unit capacities then [] else codes "\ncapacity = [" ++ (join_by decimal (codes ", ") capacities ++ codes "]")

-- the text before the lines of the quorums
abbrev pub head_text : NamedSystem → List ℕ
head_text n = codes "voters = " ++ (name_list n.names ++ (capacity_line n.capacities ++ codes "\nquorums = [\n"))

-- the text of a coterie: the voters' names, their capacities if one is not 1, and a line for each quorum
abbrev pub coterie_text : NamedSystem → List ℕ
coterie_text n =
    codes "voters = " ++ (name_list n.names ++ (capacity_line n.capacities ++ (codes "\nquorums = [\n"
    ++ (flat_map (quorum_line n.names) n.system.quorums ++ codes "]\n"))))
