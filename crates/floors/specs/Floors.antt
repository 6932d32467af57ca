-- The floor of the numbers that a voter dropped: one stamp for all of them, and an epoch for each.
use Rattle.std.specs.Prelude.{ℕ, ◌≡◌, ◌<◌, ◌≤◌, max, true}
use Rattle.session_rows.specs.Calls.{floor_row}
use Rattle.sessions.specs.Rows.{Row}

pub record Floor : Type 0 where
  -- no session had a stamp above this one
  pub stamp : ℕ
  -- and no session, under a number, a later epoch
  pub epochs : ℕ → ℕ

-- the row of a number that nobody had since it was dropped
abbrev pub row_on : Floor → ℕ → Row
row_on f number = floor_row (f.epochs number) f.stamp

-- The floor may stand for this row of a number: neither its epoch nor a stamp is above, and an epoch that could be claimed again is below.
abbrev pub MayStandFor : Floor → ℕ → Row → Type 0
MayStandFor f number r = (r.epoch ≤ f.epochs number) × (r.reserved ≤ f.stamp) × (r.again ≡ true → r.epoch < f.epochs number)

-- the lowest floor above both
abbrev pub above_both : Floor → Floor → Floor
above_both f g = record { stamp = max f.stamp g.stamp; epochs = λ number. max (f.epochs number) (g.epochs number) }
