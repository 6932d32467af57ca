-- The texts of cells.
use Rattle.std.specs.Prelude.{ℕ, ◌/◌, ◌%◌, ◌==◌, ◌&&◌, Bool, if◌then◌else◌, List, ◌++◌, codes, decimal, string_bytes}
use Rattle.show_tables.specs.Shares.{parts_above, share_of, tenths_of}
use Rattle.show_tables.specs.declared.cell.Cell.{Cell}
use Rattle.show_tables.specs.declared.cell.Cell.TheVariants.{Words, Count, Span, AtMost, Percent, Tenths, Load, Throughput, Exact}

-- two numbers, or one if they are the same, as `2-4` and `3`
abbrev pub span_text : ℕ → ℕ → List ℕ
span_text least most = if least == most then decimal least else decimal least ++ (codes "-" ++ decimal most)

-- a number of tenths, with a point, as `60.0`
abbrev pub point_text : ℕ → List ℕ
point_text tenths = decimal (tenths / 10) ++ (codes "." ++ decimal (tenths % 10))

-- a load in percent, as `60.0 %`
abbrev pub percent_text : ℕ × ℕ → List ℕ
percent_text load = point_text (share_of 1000 load.0 load.1) ++ codes " %"

-- the throughput of a load, as `1.7`
abbrev pub tenths_text : ℕ × ℕ → List ℕ
tenths_text load = point_text (tenths_of load.1 load.0)

-- how far a load is above a bound at most, as `at most 0.123 %`
abbrev pub above_text : ℕ × ℕ → ℕ × ℕ → List ℕ
above_text load bound =
    let parts = parts_above load bound 100000 in
    codes "at most " ++ (decimal (parts / 1000) ++ (codes "." ++ (decimal (parts / 100 % 10)
    ++ (decimal (parts / 10 % 10) ++ (decimal (parts % 10) ++ codes " %")))))

-- whether a load is its bound
abbrev pub is_bound : ℕ × ℕ → ℕ × ℕ → Bool
is_bound load bound = (load.0 == bound.0) && (load.1 == bound.1)

-- a load in percent, and how far it is above its bound
abbrev pub load_text : ℕ × ℕ → ℕ × ℕ → List ℕ
load_text load bound =
    if is_bound load bound then percent_text load
    else percent_text load ++ (codes ", " ++ (above_text load bound ++ codes " above the smallest"))

-- the throughput of a load, and how far it is below the greatest
abbrev pub throughput_text : ℕ × ℕ → ℕ × ℕ → List ℕ
throughput_text load bound =
    if is_bound load bound then tenths_text load
    else tenths_text load ++ (codes ", " ++ (above_text load bound ++ codes " below the greatest"))

-- a load as a fraction if it is its bound, and otherwise how far it is above
abbrev pub exact_text : ℕ × ℕ → ℕ × ℕ → List ℕ
exact_text load bound =
    if is_bound load bound then decimal load.0 ++ (codes "/" ++ decimal load.1)
    else above_text load bound ++ codes " above the smallest"

-- the text of a cell
abbrev pub cell_text : Cell → List ℕ
cell_text (Words words) = string_bytes words
cell_text (Count count) = decimal count
cell_text (Span least most) = span_text least most
cell_text (AtMost count) = codes "<=" ++ decimal count
cell_text (Percent load) = percent_text load
cell_text (Tenths load) = tenths_text load
cell_text (Load load bound) = load_text load bound
cell_text (Throughput load bound) = throughput_text load bound
cell_text (Exact load bound) = exact_text load bound
