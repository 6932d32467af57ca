-- How many messages a member lost.
use Rattle.std.specs.Prelude.{ℕ, ◌+◌, ◌-◌, ◌^◌, ◌≤◌, min}

-- no fewer are lost than before, and at most n more
abbrev pub LosesAtMost : ℕ → ℕ → ℕ → Type 0
LosesAtMost n before after = (before ≤ after) × (after ≤ before + n)

-- at least n more are lost than before; the count stays at its greatest value, 2^64 - 1
abbrev pub LosesAtLeast : ℕ → ℕ → ℕ → Type 0
LosesAtLeast n before after = (before ≤ after) × (min (before + n) (2 ^ 64 - 1) ≤ after)

-- the count after one more loss; it stays at its greatest value, 2^64 - 1
abbrev pub one_more : ℕ → ℕ
one_more lost = min (lost + 1) (2 ^ 64 - 1)
