-- The end of a picture.
use Rattle.std.specs.Prelude.{◌≡◌, ℕ, List, ◌++◌, codes}

-- the last line of a picture
abbrev pub last_line : List ℕ
last_line = codes "</svg>\n"

-- the text ends as a picture does
pub record IsEnded (text : List ℕ) : Type 0 where
  pub before : List ℕ
  pub is : text ≡ before ++ last_line
