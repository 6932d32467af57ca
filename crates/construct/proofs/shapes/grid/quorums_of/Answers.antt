use Rattle.std.proofs.Common.{◌*◌, ◌/◌, ◌%◌, arith, refl, rules}
use Rattle.std.proofs.lemmas.Iterator.{items_from_collect, YieldsList-from_range, YieldsList-from_map}
use Rattle.std.proofs.lemmas.Iterator.Consumers.{YieldsList-at}
use Rattle.construct.specs.Grid.{row_with_column, grid_quorums}
use Rattle.construct.proofs.shapes.grid.quorums_of.Goals as goal

pub returns : goal.returns
unfolding grid_quorums
returns c =
    let rows = c.args.rows in
    let columns = c.args.columns in
    items_from_collect _ c.collect.ensures.ran
    (YieldsList-from_map _ (λ j. row_with_column rows columns (j / columns) (j % columns))
    (YieldsList-at c.map.ensures.source (YieldsList-from_range 0 (rows * columns) (rows * columns) refl (omega arith)))
    c.map.ensures.closure (λ x r q k. search rules))
