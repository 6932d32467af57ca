-- The table of a voter's rows as C sees it: the bytes of the row of each number, one after the other.
use Rattle.std.specs.Prelude.{ℕ, ◌*◌, List, Option, None, Some, drop, take, unwrap_or}
use Rattle.sessions.specs.Rows.{Row}
use Rattle.sessions.specs.Tables.{no_row}
use Rattle.blocks.specs.Bytes.{IsNoRow, IsRow}
use Rattle.blocks.specs.RowSteps.{row_bytes}

-- the bytes are those of this row, or of none
abbrev pub IsReadAs : List ℕ → Option Row → Type 0
IsReadAs bytes None = IsNoRow bytes
IsReadAs bytes (Some row) = IsRow bytes row

-- the bytes of the row of a number
abbrev pub row_at : List ℕ → ℕ → List ℕ
row_at table number = take row_bytes (drop (row_bytes * number) table)

-- the row of each number in a table; none where the bytes are those of no row
abbrev pub AreRows : List ℕ → (ℕ → Option Row) → Type 0
AreRows table rows = (number : ℕ) → IsReadAs (row_at table number) (rows number)

-- a number with no row is nobody's
abbrev pub row_or_none : (ℕ → Option Row) → ℕ → Row
row_or_none rows number = unwrap_or (rows number) no_row
