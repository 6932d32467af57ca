-- Words of a line, each with a space in front, and a line of control.
use Rattle.std.specs.Prelude.{ℕ, ◌++◌, ◌∷◌, codes, List, []}

-- these words, each with a space in front (32 is a space), and then a text
abbrev pub spaced : List (List ℕ) → List ℕ → List ℕ
spaced [] rest = rest
spaced (word ∷ words) rest = (32 ∷ word) ++ spaced words rest

-- a line of control as it is in a message: a dot and a space in front, and a newline behind
abbrev pub control_line : List ℕ → List ℕ
control_line words = codes ". " ++ (words ++ 10 ∷ [])
