-- What a guard accepts: a pass that shows no older grant than it saw before.
use Rattle.std.specs.Prelude.{ℕ, ◌≡◌, ◌<◌, ◌≤◌, ◌==◌, nat_le, nat_lt, Bool, true, false, ◌||◌, List, max, slice_index}
use Rattle.std.specs.List.{list_any}
use Rattle.numbers.specs.Bounds.{max_voters}

-- the pass shows no grant of this voter, or one that is at least the highest that was seen
abbrev pub is_not_older : List ℕ → List ℕ → ℕ → Bool
is_not_older seen shown voter = (slice_index shown voter == 0) || nat_le (slice_index seen voter) (slice_index shown voter)

-- the highest grant of this voter that was seen, with this pass
abbrev pub highest_with : List ℕ → List ℕ → ℕ → ℕ
highest_with seen shown voter = max (slice_index seen voter) (slice_index shown voter)

-- some voter's grant is among these: its number is not 0
abbrev pub HasGrant : List ℕ → Type 0
HasGrant grants = list_any (nat_lt 0) grants ≡ true

-- a guard that has seen these grants admits this pass
abbrev pub Admits : List ℕ → List ℕ → Type 0
Admits seen pass = (v : ℕ) → v < max_voters → is_not_older seen pass v ≡ true

-- it refuses this pass: the pass shows an older grant of some voter
abbrev pub Refuses : List ℕ → List ℕ → Type 0
Refuses seen pass = (v : ℕ) × (v < max_voters) × (is_not_older seen pass v ≡ false)

-- what the guard has seen after it admitted this pass
abbrev pub SeesAlso : List ℕ → List ℕ → List ℕ → Type 0
SeesAlso seen pass after = (v : ℕ) → v < max_voters → slice_index after v ≡ highest_with seen pass v

-- the guard has seen each grant of this pass, or a newer one
abbrev pub HasSeen : List ℕ → List ℕ → Type 0
HasSeen seen pass = (v : ℕ) → v < max_voters → slice_index pass v ≤ slice_index seen v
