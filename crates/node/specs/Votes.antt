-- Votes that a client and its seat on the board hold: for each voter, the grant under which its
-- vote is held, or 0.
use Rattle.std.specs.Prelude.{◌≡◌, ◌≢◌, ◌⊎◌, ℕ, ◌<◌, false, List, slice_index, slice_set}
use Rattle.numbers.specs.Sets.{has}
use Rattle.message.specs.declared.message.ClientBody.{ClientBody}
use Rattle.message.specs.declared.message.ClientBody.TheVariants as to_client

-- only votes of the board's voters are held
abbrev pub HoldsWithin : ℕ → List ℕ → Type 0
HoldsWithin voters held = (v : ℕ) → slice_index held v ≢ 0 → v < voters

-- only votes of these voters are held
abbrev pub HoldsOnly : List ℕ → List ℕ → Type 0
HoldsOnly voters held = (v : ℕ) → has voters v ≡ false → slice_index held v ≡ 0

-- each vote is held under the same grant as in the other list, or is not held
abbrev pub HoldsFewer : List ℕ → List ℕ → Type 0
HoldsFewer held others = (v : ℕ) → (slice_index held v ≡ slice_index others v) ⊎ (slice_index held v ≡ 0)

-- the message is a LOCKED, and afterwards the vote that it brings is held too
abbrev pub HoldsLocked : List ℕ → ℕ → ClientBody → List ℕ → Type 0
HoldsLocked before voter (to_client.Locked stamp grant) after = after ≡ slice_set before voter grant
HoldsLocked before voter body after = ⊥
