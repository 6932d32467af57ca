use Rattle.std.proofs.Common.{◌≡◌, ◌++◌, map, drop, string_bytes}
use Rattle.std.specs.Option.{option_map}
use Rattle.toml.specs.View.{items_view}
use Rattle.coterie_file.specs.Lists.{texts_of}
use Rattle.coterie_file.proofs.lists.texts_of.Given as goal

abbrev pub invariant-loop-value : goal.invariant-loop-value
invariant-loop-value l =
    option_map (λ rest. map string_bytes l.texts.items ++ rest) (texts_of (items_view (drop l.value-index l.values))) ≡ texts_of (items_view l.values)
