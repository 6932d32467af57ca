-- Voters by their names.
use Rattle.std.specs.Prelude.{ℕ, ◌&&◌, nat_lt, not, List, length, map, position, Option, codes}
use Rattle.std.specs.List.{join_by}
use Rattle.numbers.specs.Sets.{set_where}
use Rattle.coterie_file.specs.Names.{has_name, name_at}

-- the names of these voters
abbrev pub names_of : List (List ℕ) → List ℕ → List (List ℕ)
names_of names voters = map (name_at names) voters

-- the same in a line, with a space between each two
abbrev pub names_text : List (List ℕ) → List ℕ → List ℕ
names_text names voters = join_by (name_at names) (codes " ") voters

-- the voters whose name is one of these words
abbrev pub voters_named : List (List ℕ) → List (List ℕ) → List ℕ
voters_named names words = set_where (λ i. nat_lt i (length names) && has_name words (name_at names i))

-- the place of the first of these words that is no voter's name
abbrev pub first_unknown : List (List ℕ) → List (List ℕ) → Option ℕ
first_unknown names words = position (λ word. not (has_name names word)) words
