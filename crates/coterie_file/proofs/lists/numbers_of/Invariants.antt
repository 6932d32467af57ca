use Rattle.std.proofs.Common.{◌≡◌, ◌++◌, drop}
use Rattle.std.specs.Option.{option_map}
use Rattle.toml.specs.View.{items_view}
use Rattle.coterie_file.specs.Lists.{numbers_of}
use Rattle.coterie_file.proofs.lists.numbers_of.Given as goal

abbrev pub invariant-loop-value : goal.invariant-loop-value
invariant-loop-value l =
    option_map (λ rest. l.numbers.items ++ rest) (numbers_of (items_view (drop l.value-index l.values))) ≡ numbers_of (items_view l.values)
