-- Grids (Maekawa, ACM TOCS 3(2), 1985, section 6): the voters are in rows and columns, and a quorum
-- is a row with a column.
use Rattle.std.specs.Prelude.{ℕ, ◌*◌, ◌/◌, ◌%◌, ◌==◌, ◌||◌, ◌&&◌, List, Result, Ok, map, nat_lt}
use Rattle.std.specs.List.{range_with_len}
use Rattle.quorum_set.specs.Coteries.{QuorumSystem}
use Rattle.numbers.specs.Bounds.{max_voters}
use Rattle.numbers.specs.Sets.{set_where}
use Rattle.construct.specs.Answers.{check_sizes}
use Rattle.construct.specs.declared.fault.ConstructFault.{ConstructFault}

-- the voters of row i and those of column k, in a grid of these rows and columns; voter v is in row
-- v / columns and column v % columns
abbrev pub row_with_column : ℕ → ℕ → ℕ → ℕ → List ℕ
row_with_column rows columns i k =
    set_where (λ v. nat_lt v (rows * columns) && ((v / columns == i) || (v % columns == k)))

-- a quorum for each voter: its row with its column
unfoldable pub grid_quorums : ℕ → ℕ → List (List ℕ)
grid_quorums rows columns =
    map (λ j. row_with_column rows columns (j / columns) (j % columns)) (range_with_len 0 (rows * columns))

-- the grid of these rows and columns
abbrev pub grid_system : ℕ → ℕ → QuorumSystem
grid_system rows columns = record { voters = rows * columns; quorums = grid_quorums rows columns }

-- the grid of these rows and columns, or the fault of its sizes
abbrev pub grid_at : ℕ → ℕ → Result QuorumSystem ConstructFault
grid_at rows columns =
    check_sizes (nat_lt rows 2 || nat_lt columns 2) (nat_lt max_voters (rows * columns)) (Ok (grid_system rows columns))
