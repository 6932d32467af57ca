-- Tables of whole numbers over one denominator, and their pivots (Edmonds, Systems of distinct
-- representatives and linear algebra, 1967; Bareiss, Math. Comp. 22, 1968, on whole-number
-- elimination).
use Rattle.std.specs.Prelude.{◌≡◌, ◌≢◌, ℕ, ◌<◌, ◌≤◌, ◌==◌, if◌then◌else◌, ℤ, pos, ◌+ℤ◌, ◌-ℤ◌, ◌*ℤ◌, ◌<ℤ◌, unsigned_abs, List, [], length, take, fold, slice_index_or}
use Rattle.std.specs.Int.{◌∣◌}
use Rattle.fraction.specs.Fractions.{Fits}

-- rows of whole numbers; the value at a place is the entry there over the denominator
pub record Table : Type 0 where
  pub rows : List (List ℤ)
  pub den : ℤ

-- the row with this number
abbrev pub row_of : Table → ℕ → List ℤ
row_of t i = slice_index_or t.rows i []

-- the entry at a place
abbrev pub entry_at : Table → ℕ → ℕ → ℤ
entry_at t i j = slice_index_or (row_of t i) j (pos 0)

-- the table has this row, and the row this column
abbrev pub IsPlace : Table → ℕ → ℕ → Type 0
IsPlace t i j = (i < length t.rows) × (j < length (row_of t i))

-- Rows of one length, with entries that fit, over a positive denominator that fits.
pub record IsTable (t : Table) : Type 0 where
  pub level : (i k : ℕ) → i < length t.rows → k < length t.rows → length (row_of t i) ≡ length (row_of t k)
  pub entries_fit : (i j : ℕ) → IsPlace t i j → Fits (entry_at t i j)
  pub positive : pos 0 <ℤ t.den
  pub den_fits : Fits t.den

-- the tables have the same number of rows, and each row has the same length
pub record HasSameShape (t u : Table) : Type 0 where
  pub rows : length u.rows ≡ length t.rows
  pub columns : (i : ℕ) → i < length t.rows → length (row_of u i) ≡ length (row_of t i)

-- the entry at (i, j) after the pivot at (row, col), over the old denominator times the pivot's
-- entry
abbrev pub pivot_entry : Table → ℕ → ℕ → ℕ → ℕ → ℤ
pivot_entry t row col i j =
    if i == row then entry_at t row j *ℤ t.den
    else (entry_at t i j *ℤ entry_at t row col) -ℤ (entry_at t i col *ℤ entry_at t row j)

-- The numbers that the pivot at (row, col) computes fit: the denominator, the entries of the
-- pivot's row, and for each other entry its two products and their difference.
pub record PivotFits (t : Table) (row col : ℕ) : Type 0 where
  pub den : Fits (t.den *ℤ entry_at t row col)
  pub pivot_row : (j : ℕ) → IsPlace t row j → Fits (entry_at t row j *ℤ t.den)
  pub others : (i j : ℕ) → i ≢ row → IsPlace t i j
      → Fits (entry_at t i j *ℤ entry_at t row col) × Fits (entry_at t i col *ℤ entry_at t row j)
      × Fits ((entry_at t i j *ℤ entry_at t row col) -ℤ (entry_at t i col *ℤ entry_at t row j))

-- The new table has the numbers of the pivot at (row, col), divided by their greatest common
-- divisor.
pub record IsPivoted (t u : Table) (row col : ℕ) : Type 0 where
  pub shape : HasSameShape t u
  pub divisor : ℕ
  pub positive : 0 < divisor
  pub den : u.den *ℤ pos divisor ≡ t.den *ℤ entry_at t row col
  pub entries : (i j : ℕ) → IsPlace t i j → entry_at u i j *ℤ pos divisor ≡ pivot_entry t row col i j
  pub lowest : (d : ℕ) → d ∣ unsigned_abs u.den → ((i j : ℕ) → IsPlace t i j → d ∣ unsigned_abs (entry_at u i j))
      → d ≡ 1

-- each row has this column
abbrev pub IsColumn : Table → ℕ → Type 0
IsColumn t j = (i : ℕ) → i < length t.rows → j < length (row_of t i)

-- the sum of a row's entries in some columns
abbrev pub sum_in : List ℤ → List ℕ → ℤ
sum_in r columns = fold (λ s j. s +ℤ slice_index_or r j (pos 0)) (pos 0) columns

-- the sum fits, and so does each partial sum in the columns' order
abbrev pub SumFits : List ℤ → List ℕ → Type 0
SumFits r columns = (k : ℕ) → k ≤ length columns → Fits (sum_in r (take k columns))

-- these sums fit in each row
abbrev pub SumsFit : Table → List ℕ → Type 0
SumsFit t columns = (i : ℕ) → i < length t.rows → SumFits (row_of t i) columns

-- One column of the new table has the sums of the old entries in some columns. All else is
-- unchanged.
pub record IsSummed (t u : Table) (columns : List ℕ) (into : ℕ) : Type 0 where
  pub shape : HasSameShape t u
  pub den : u.den ≡ t.den
  pub sums : (i : ℕ) → i < length t.rows → entry_at u i into ≡ sum_in (row_of t i) columns
  pub others : (i j : ℕ) → i < length t.rows → j ≢ into → entry_at u i j ≡ entry_at t i j
