use Rattle.std.proofs.Common.{◌≡◌, map, take}
use Rattle.show_compare.specs.Compare.{figure_texts, shown}
use Rattle.show_tables.specs.Cells.{cell_text}
use Rattle.show_compare.proofs.figures.figure_rows.Given as goal

-- the rows of the coteries so far
abbrev pub invariant-loop-entry : goal.invariant-loop-entry
invariant-loop-entry l = map (λ row. map cell_text row.items) l.rows.items ≡ map (λ e. figure_texts l.is_throughput (shown e)) (take l.entry-index l.entries)
