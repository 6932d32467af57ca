-- One row of a table.
use Rattle.std.specs.Prelude.{◌≡◌, ◌≢◌, ℕ, ◌<◌, ◌≤◌, ◌^◌, ℤ, pos, ◌-ℤ◌, ◌*ℤ◌, unsigned_abs, List, [], length, map, slice_index_or, Vec}
use Rattle.std.specs.declared.alloc.Global.{Global}
use Rattle.std.specs.Int.{◌∣◌}
use Rattle.fraction.specs.Fractions.{Fits}
use Rattle.fraction.specs.Tables.{Table, row_of, pivot_entry, sum_in, SumFits}

-- the entry in a column
abbrev pub entry_of : List ℤ → ℕ → ℤ
entry_of r j = slice_index_or r j (pos 0)

-- each entry is at most 2^62 in absolute value
abbrev pub IsSmall : List ℤ → Type 0
IsSmall r = (j : ℕ) → j < length r → unsigned_abs (entry_of r j) ≤ 2 ^ 62

-- each entry times a factor fits
abbrev pub EachFits : List ℤ → ℤ → Type 0
EachFits r factor = (j : ℕ) → j < length r → Fits (entry_of r j *ℤ factor)

-- the row's entry in a column times `scale`, minus `taken` times the other row's entry
abbrev pub combine_entry : List ℤ → ℤ → List ℤ → ℤ → ℕ → ℤ
combine_entry r scale other taken j = (entry_of r j *ℤ scale) -ℤ (taken *ℤ entry_of other j)

-- both products and their difference fit, in each column
abbrev pub CombineFits : List ℤ → ℤ → List ℤ → ℤ → Type 0
CombineFits r scale other taken =
    (j : ℕ) → j < length r
    → Fits (entry_of r j *ℤ scale) × Fits (taken *ℤ entry_of other j) × Fits (combine_entry r scale other taken j)

-- the numbers fit that are computed for a row when the other row, times the row's entry in the
-- column, is subtracted from it
abbrev pub EliminateFits : List ℤ → ℤ → List ℤ → ℕ → Type 0
EliminateFits r scale other column = CombineFits r scale other (entry_of r column)

-- the new row is the old row times `scale`, minus the other row times the old row's entry in the
-- column
abbrev pub IsEliminated : List ℤ → List ℤ → ℤ → List ℤ → ℕ → Type 0
IsEliminated old new scale other column =
    (length new ≡ length old)
    × ((j : ℕ) → j < length old → entry_of new j ≡ combine_entry old scale other (entry_of old column) j)

-- The greatest number that divides a number and each entry.
pub record IsDivisorOf (start : ℕ) (r : List ℤ) (g : ℕ) : Type 0 where
  pub number : g ∣ start
  pub entries : (j : ℕ) → j < length r → g ∣ unsigned_abs (entry_of r j)
  pub greatest : (d : ℕ) → d ∣ start → ((j : ℕ) → j < length r → d ∣ unsigned_abs (entry_of r j)) → d ∣ g

-- All rows of a table.

-- the rows' entries
abbrev pub lists_of : List (Vec ℤ Global) → List (List ℤ)
lists_of rows = map (λ row. row.items) rows

-- the table of rows over a denominator
abbrev pub table_of : List (Vec ℤ Global) → ℤ → Table
table_of rows den = record { rows = lists_of rows; den = den }

-- the row with this number
abbrev pub row_at : List (List ℤ) → ℕ → List ℤ
row_at rows i = slice_index_or rows i []

-- each row has the column and the length of the pivot's row, and the numbers that are computed for
-- it fit
abbrev pub AllEliminateFit : List (List ℤ) → ℤ → List ℤ → ℕ → Type 0
AllEliminateFit rows scale pivot_row column =
    (i : ℕ) → i < length rows
    → (length (row_at rows i) ≡ length pivot_row) × (column < length pivot_row)
    × EliminateFits (row_at rows i) scale pivot_row column

-- the lists have the same length, and the relation holds for each old row and its new one
abbrev pub EachRow : (List ℤ → List ℤ → Type 0) → List (List ℤ) → List (List ℤ) → Type 0
EachRow R old new = (length new ≡ length old) × ((i : ℕ) → i < length old → R (row_at old i) (row_at new i))

-- The greatest number that divides a number and all entries.
pub record IsDivisorOfAll (start : ℕ) (rows : List (List ℤ)) (g : ℕ) : Type 0 where
  pub number : g ∣ start
  pub entries : (i j : ℕ) → i < length rows → j < length (row_at rows i) → g ∣ unsigned_abs (entry_of (row_at rows i) j)
  pub greatest : (d : ℕ) → d ∣ start
      → ((i j : ℕ) → i < length rows → j < length (row_at rows i) → d ∣ unsigned_abs (entry_of (row_at rows i) j))
      → d ∣ g

-- all entries fit, and the number divides each
abbrev pub DividesAll : ℕ → List (List ℤ) → Type 0
DividesAll g rows =
    (i j : ℕ) → i < length rows → j < length (row_at rows i)
    → Fits (entry_of (row_at rows i) j) × (g ∣ unsigned_abs (entry_of (row_at rows i) j))

-- a row's old entries are its new ones times the number
abbrev pub IsDivided : ℕ → List ℤ → List ℤ → Type 0
IsDivided g old new = (length new ≡ length old) × ((j : ℕ) → j < length old → entry_of new j *ℤ pos g ≡ entry_of old j)

-- all rows are as long as this one
abbrev pub IsLevelWith : List (List ℤ) → ℕ → Type 0
IsLevelWith rows row = (i : ℕ) → i < length rows → length (row_at rows i) ≡ length (row_at rows row)

-- the numbers that are computed for each row except the pivot's fit
abbrev pub OthersFit : List (List ℤ) → ℤ → ℕ → ℕ → Type 0
OthersFit rows scale row column =
    (i : ℕ) → i < length rows → i ≢ row → EliminateFits (row_at rows i) scale (row_at rows row) column

-- The rows have the numbers of the pivot at (row, column) of a table, before they are divided.
pub record IsUnreduced (t : Table) (rows : List (List ℤ)) (row column : ℕ) : Type 0 where
  pub count : length rows ≡ length t.rows
  pub entries : (i : ℕ) → i < length t.rows → (length (row_at rows i) ≡ length (row_of t i))
      × ((j : ℕ) → j < length (row_of t i) → entry_of (row_at rows i) j ≡ pivot_entry t row column i j)

-- The new rows and denominator, times a divisor, are the old ones. They have no common divisor
-- above 1 themselves.
pub record IsLowest (old new : List (List ℤ)) (den low : ℤ) : Type 0 where
  pub divisor : ℕ
  pub positive : 0 < divisor
  pub den_is : low *ℤ pos divisor ≡ den
  pub rows : EachRow (IsDivided divisor) old new
  pub lowest : (d : ℕ) → d ∣ unsigned_abs low
      → ((i j : ℕ) → i < length old → j < length (row_at old i) → d ∣ unsigned_abs (entry_of (row_at new i) j))
      → d ≡ 1

-- a row has the sum of its entries in some columns at one column, and is otherwise unchanged
abbrev pub IsSummedRow : List ℕ → ℕ → List ℤ → List ℤ → Type 0
IsSummedRow columns into old new =
    (length new ≡ length old) × (entry_of new into ≡ sum_in old columns)
    × ((j : ℕ) → j ≢ into → entry_of new j ≡ entry_of old j)

-- each row has a column
abbrev pub HaveColumn : List (List ℤ) → ℕ → Type 0
HaveColumn rows j = (i : ℕ) → i < length rows → j < length (row_at rows i)

-- these sums fit in each row
abbrev pub AllSumsFit : List (List ℤ) → List ℕ → Type 0
AllSumsFit rows columns = (i : ℕ) → i < length rows → SumFits (row_at rows i) columns
