use Rattle.std.proofs.Common.{◌≡◌, map, string_bytes, take}
use Rattle.show_tables.specs.Cells.{cell_text}
use Rattle.show_tables.proofs.words.texts_of_row.Given as goal

-- the texts of the cells so far
abbrev pub invariant-loop-cell : goal.invariant-loop-cell
invariant-loop-cell l = map string_bytes l.texts.items ≡ map cell_text (take l.cell-index l.row)
