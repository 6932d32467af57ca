use Rattle.std.proofs.Common.{arith, refl, rules}
use Rattle.std.proofs.lemmas.Iterator.{items_from_collect, YieldsList-from_range, YieldsList-from_map}
use Rattle.std.proofs.lemmas.Iterator.Consumers.{YieldsList-at}
use Rattle.construct.specs.Cyclic.{shift_by, cyclic_quorums}
use Rattle.construct.proofs.shapes.cyclic.quorums_of.Goals as goal

pub returns : goal.returns
unfolding cyclic_quorums
returns c =
    let n = c.args.n in
    items_from_collect _ c.collect.ensures.ran
    (YieldsList-from_map _ (shift_by n c.args.base.now) (YieldsList-at c.map.ensures.source (YieldsList-from_range 0 n n refl (omega arith)))
    c.map.ensures.closure (λ x r q k. search rules))
