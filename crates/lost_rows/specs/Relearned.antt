-- What a voter learns whose state was lost, from another voter's row of a number.
use Rattle.std.specs.Prelude.{ℕ, max, Bool, false, List, [], ◌∷◌, Option, None, Some, if◌then◌else◌}
use Rattle.sessions.specs.Rows.{Row, dropped, has_number}
use Rattle.session_rows.specs.Calls.{followed_by, gives_way, is_split}
use Rattle.session_rows.specs.declared.claim.Heard.{Heard}

-- whoever has the number, its stamps are above this base, and up to this one they are reserved
abbrev pub lifted : Row → ℕ → ℕ → Row
lifted r base stamp = record { epoch = r.epoch; session = r.session; base = max r.base base; reserved = max r.reserved stamp; again = r.again }

-- the number is the session's by the row, under the epoch, if there is a session
abbrev pub is_owned_by : Row → Option ℕ → ℕ → Bool
is_owned_by r None epoch = false
is_owned_by r (Some session) epoch = has_number r session epoch

-- The row after another voter's was learned. It follows a newer one. It is nobody's if two sessions have its epoch. If both have one
-- session, under one epoch, that goes on above both bases. Else all stamps here are above what is reserved there.
abbrev pub relearned : Row → Row → Heard → Row
relearned r other heard =
    if gives_way r other heard then followed_by r other other.session
    else if is_split r other heard then dropped r r.epoch other.reserved
    else if is_owned_by other r.session r.epoch then lifted r other.base other.reserved
    else lifted r other.reserved other.reserved

-- what another voter told of its row, and whether the sessions of both rows were heard then
pub record Learned : Type 0 where
  pub row : Row
  pub heard : Heard

-- the row after each of these was learned, in order
abbrev pub all_relearned : Row → List Learned → Row
all_relearned r [] = r
all_relearned r (x ∷ xs) = all_relearned (relearned r x.row x.heard) xs
