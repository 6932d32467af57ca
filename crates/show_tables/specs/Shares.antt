-- Parts of a whole, rounded.
use Rattle.std.specs.Prelude.{ℕ, ◌+◌, ◌-◌, ◌*◌, ◌/◌, ◌^◌, min, max}
use Rattle.std.specs.Int.{div_ceil}

-- the whole that counts: 1 for a whole of 0, and at most 2^32 - 1
abbrev pub whole_of : ℕ → ℕ
whole_of whole = max 1 (min whole (2 ^ 32 - 1))

-- a part of a whole in units of which `scale` are the whole, rounded to the nearest; a part that is
-- greater than the whole counts as the whole
abbrev pub share_of : ℕ → ℕ → ℕ → ℕ
share_of scale part whole = (min part (whole_of whole) * scale + whole_of whole / 2) / whole_of whole

-- a quotient in tenths, rounded to the nearest; both numbers count as 2^32 - 1 at most, and a divisor of
-- 0 as 1
abbrev pub tenths_of : ℕ → ℕ → ℕ
tenths_of part whole = (min part (2 ^ 32 - 1) * 10 + whole_of whole / 2) / whole_of whole

-- by how many parts a load is above a bound, where `scale` parts are the bound, rounded up; the product
-- counts as 2^128 - 1 at most, and the bound as 1 at least
abbrev pub parts_above : ℕ × ℕ → ℕ × ℕ → ℕ → ℕ
parts_above load bound scale =
    div_ceil (min ((load.0 * bound.1 - bound.0 * load.1) * scale) (2 ^ 128 - 1)) (max (bound.0 * load.1) 1)
