-- A row as six numbers of 64 bits.
use Rattle.std.specs.Prelude.{ℕ, ◌≡◌, ◌≤◌, ◌/◌, ◌%◌, ◌^◌, Bool, true, List, [], ◌∷◌, Option, Some, None, if◌then◌else◌}
use Rattle.numbers.specs.Bounds.{max_limit}
use Rattle.sessions.specs.Rows.{Row}

-- a row whose base is within what is reserved, and that within the limit; if its epoch may be claimed again, nobody
-- has the number
pub record IsBounded (r : Row) : Type 0 where
  pub sound : r.base ≤ r.reserved
  pub few : r.reserved ≤ max_limit
  pub free : r.again ≡ true → r.session ≡ None

-- 1, and the session's upper and lower half; if nobody has the number 0, or 2 if the epoch may be claimed again, and
-- twice 0
abbrev pub session_words : Option ℕ → Bool → List ℕ
session_words None again = (if again then 2 else 0) ∷ 0 ∷ 0 ∷ []
session_words (Some session) again = 1 ∷ session / 2 ^ 64 ∷ session % 2 ^ 64 ∷ []

-- the numbers of a row: epoch, base, reserved, and the session
abbrev pub words_of : Row → List ℕ
words_of r = r.epoch ∷ r.base ∷ r.reserved ∷ session_words r.session r.again
