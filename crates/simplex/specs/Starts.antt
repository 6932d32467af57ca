-- Rows before the first pivot.
use Rattle.std.specs.Prelude.{◌≡◌, ℕ, ◌<◌, ℤ, List, length, Vec}
use Rattle.std.specs.declared.alloc.Global.{Global}
use Rattle.fraction.specs.Fractions.{Fits}
use Rattle.fraction.specs.Rows.{lists_of, row_at, entry_of}

-- a row of this length, with numbers that fit
abbrev pub IsStartRow : ℕ → List ℤ → Type 0
IsStartRow columns r = (length r ≡ columns) × ((j : ℕ) → j < columns → Fits (entry_of r j))

-- `count` such rows
abbrev pub AreStartRows : ℕ → ℕ → List (Vec ℤ Global) → Type 0
AreStartRows count columns rows =
    (length rows ≡ count) × ((i : ℕ) → i < count → IsStartRow columns (row_at (lists_of rows) i))
