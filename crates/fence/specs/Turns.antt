-- The turns that a guard gives: it counts the passes that show it something newer. So a turn is one
-- number that grows with each request that comes to the guard: a fencing token.
use Rattle.std.specs.Prelude.{ℕ, ◌≡◌, ◌<◌, ◌≤◌, ◌+◌, List, ◌⊎◌, slice_index}
use Rattle.numbers.specs.Bounds.{max_voters}

-- the pass shows a newer grant of some voter than the guard saw
abbrev pub Raises : List ℕ → List ℕ → Type 0
Raises seen pass = (v : ℕ) × (v < max_voters) × (slice_index seen v < slice_index pass v)

-- it shows none
abbrev pub RaisesNone : List ℕ → List ℕ → Type 0
RaisesNone seen pass = (v : ℕ) → v < max_voters → slice_index pass v ≤ slice_index seen v

-- the turn of a pass, by the turn before it: one more if the pass raises some number
abbrev pub IsTurn : List ℕ → List ℕ → ℕ → ℕ → Type 0
IsTurn seen pass before turn = (Raises seen pass × (turn ≡ before + 1)) ⊎ (RaisesNone seen pass × (turn ≡ before))
