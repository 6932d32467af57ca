use Rattle.std.proofs.Common.{map, string_bytes, take}
use Rattle.std.specs.List.{AllByRecursion}
use Rattle.show_compare.specs.Compare.{HasGroupsOf, shown}
use Rattle.show_compare.proofs.groups.groups_of_entries.Given as goal

-- the groups of the coteries so far are there
abbrev pub invariant-loop-entry : goal.invariant-loop-entry
invariant-loop-entry l = AllByRecursion (λ e. HasGroupsOf (map string_bytes l.groups.items) (shown e)) (take l.entry-index l.entries)
