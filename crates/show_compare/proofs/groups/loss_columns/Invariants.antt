use Rattle.std.proofs.Common.{◌≡◌, ◌∷◌, map, string_bytes, take}
use Rattle.show_compare.specs.Compare.{loss_title}
use Rattle.show_tables.specs.Words.{titles_of}
use Rattle.show_compare.proofs.groups.loss_columns.Given as goal

-- the title of the groups, and the names of the coteries so far
abbrev pub invariant-loop-entry : goal.invariant-loop-entry
invariant-loop-entry l = titles_of l.columns.items ≡ loss_title l.is_throughput ∷ map (λ e. string_bytes e.candidate.now.name) (take l.entry-index l.entries)
