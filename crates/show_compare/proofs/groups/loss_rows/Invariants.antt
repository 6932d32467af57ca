use Rattle.std.proofs.Common.{◌≡◌, ◌∷◌, map, string_bytes, take}
use Rattle.show_compare.specs.Compare.{left_text}
use Rattle.show_tables.specs.Cells.{cell_text}
use Rattle.show_compare.proofs.groups.loss_rows.Given as goal

-- the rows of the groups so far
abbrev pub invariant-loop-group : goal.invariant-loop-group
invariant-loop-group l = map (λ row. map cell_text row.items) l.rows.items
    ≡ map (λ g. string_bytes g ∷ map (λ e. left_text l.is_throughput e.candidate.now.named (string_bytes g) e.compared.losses.items) l.entries) (take l.group-index l.groups)
