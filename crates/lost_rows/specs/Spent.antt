-- What the row of a client number says of a stamp.
use Rattle.std.specs.Prelude.{ℕ, ◌≡◌, ◌≤◌, ◌⊎◌, None, Some}
use Rattle.sessions.specs.Rows.{Row}

-- the session has the number under this epoch, or had it: nobody else has it under this epoch
pub record IsOf (row : Row) (session epoch : ℕ) : Type 0 where
  pub same : row.epoch ≡ epoch
  pub name : (row.session ≡ Some session) ⊎ (row.session ≡ None)

-- By the row the stamp is spent: it is reserved, and all stamps of whoever may use it are above it, or it is reserved for the session
-- under this epoch.
pub record IsSpent (row : Row) (session epoch stamp : ℕ) : Type 0 where
  pub few : stamp ≤ row.reserved
  pub whose : (stamp ≤ row.base) ⊎ IsOf row session epoch

-- what is spent by the first row, is spent by the second one
abbrev pub Keeps : Row → Row → Type 0
Keeps first second = (session epoch stamp : ℕ) → IsSpent first session epoch stamp → IsSpent second session epoch stamp
