-- Groups of voters, such as racks, by the prefix that their names have in common.
use Rattle.std.specs.Prelude.{ℕ, ◌-◌, ◌&&◌, nat_lt, nat_le, Bool, List, length, map, filter, take, bytes_eq, codes}
use Rattle.std.specs.List.{list_all, range_with_len, suffix_len}
use Rattle.numbers.specs.Sets.{has, set_where}
use Rattle.coterie_file.specs.Names.{name_at}

-- a text without those of these bytes that are at its end
abbrev pub without_end : List ℕ → List ℕ → List ℕ
without_end bytes text = take (length text - suffix_len (has bytes) text) text

-- a name without the digits at its end, and without the marks right before them
abbrev pub prefix_of : List ℕ → List ℕ
prefix_of name = without_end (codes "-_.") (without_end (codes "0123456789") name)

-- the voters whose names have the same prefix as the name of voter i
abbrev pub group_of : List (List ℕ) → ℕ → List ℕ
group_of names i =
    set_where (λ j. nat_lt j (length names) && bytes_eq (prefix_of (name_at names j)) (prefix_of (name_at names i)))

-- whether voter i is the first of its group
abbrev pub leads : List (List ℕ) → ℕ → Bool
leads names i = list_all (nat_le i) (group_of names i)

-- the groups of the voters below n, in the order of their first voters
abbrev pub groups_below : List (List ℕ) → ℕ → List (List ℕ)
groups_below names n = map (group_of names) (filter (leads names) (range_with_len 0 n))

-- all groups
abbrev pub groups_of : List (List ℕ) → List (List ℕ)
groups_of names = groups_below names (length names)
