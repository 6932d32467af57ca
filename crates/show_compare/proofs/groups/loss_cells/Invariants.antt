use Rattle.std.proofs.Common.{◌≡◌, ◌∷◌, map, take}
use Rattle.show_compare.specs.Compare.{left_text}
use Rattle.show_tables.specs.Cells.{cell_text}
use Rattle.show_compare.proofs.groups.loss_cells.Given as goal

-- the group, and what is left of the coteries so far
abbrev pub invariant-loop-entry : goal.invariant-loop-entry
invariant-loop-entry l = map cell_text l.cells.items
    ≡ l.group ∷ map (λ e. left_text l.is_throughput e.candidate.now.named l.group e.compared.losses.items) (take l.entry-index l.entries)
