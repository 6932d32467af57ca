use Rattle.std.proofs.Common.{◌+◌, arith, refl, rules}
use Rattle.std.proofs.lemmas.Iterator.{items_from_collect, YieldsList-from_range, YieldsList-from_map}
use Rattle.std.proofs.lemmas.Iterator.Consumers.{YieldsList-at}
use Rattle.construct.specs.Wheel.{spoke}
use Rattle.construct.proofs.shapes.wheel.spokes.Goals as goal

pub returns : goal.returns
returns c =
    let k = c.args.rims in
    items_from_collect _ c.collect.ensures.ran
    (YieldsList-from_map _ spoke (YieldsList-at c.map.ensures.source (YieldsList-from_range 1 (k + 1) k refl (omega arith)))
    c.map.ensures.closure (λ x r q k. search rules))
