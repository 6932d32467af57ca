use Rattle.std.proofs.Common.{◌≡◌, ◌++◌, map, drop, string_bytes}
use Rattle.std.specs.Option.{option_map}
use Rattle.toml.specs.View.{items_view}
use Rattle.coterie_file.specs.Lists.{text_lists_of}
use Rattle.coterie_file.proofs.lists.text_lists_of.Given as goal

abbrev pub invariant-loop-value : goal.invariant-loop-value
invariant-loop-value l =
    option_map (λ rest. map (λ q. map string_bytes q.items) l.lists.items ++ rest) (text_lists_of (items_view (drop l.value-index l.values))) ≡ text_lists_of (items_view l.values)
