use Rattle.std.proofs.Common.{map, string_bytes, take}
use Rattle.show_tables.specs.Cells.{cell_text}
use Rattle.show_tables.specs.Words.{AddsLines}
use Rattle.show_tables.proofs.words.push_rows.Given as goal

-- the lines of the rows so far
abbrev pub invariant-loop-row : goal.invariant-loop-row
invariant-loop-row l = AddsLines (map (λ row. map cell_text row.items) (take l.row-index l.table.rows.items)) (string_bytes l.fn.text) (string_bytes l.text)
