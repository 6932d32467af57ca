use Rattle.std.proofs.Common.{◌≡◌, ◌+◌, refl, arith}
use Rattle.std.specs.List.{range_with_len}
use Rattle.std.proofs.lemmas.Iterator.{YieldsList-from_range}
use Rattle.construct.proofs.Combinations.{items_of_run, IfOk-weaker}
use Rattle.construct.proofs.lists.choices.Goals as goal

pub returns-clause-pool : goal.returns-clause-pool
returns-clause-pool c =
    let low = c.args.low in
    let n = c.args.n in
    IfOk-weaker c.combinations.result _ (λ made. made.pool.items ≡ range_with_len low n)
    (λ made run. items_of_run _ _ made.pool.items (range_with_len low n) run (YieldsList-from_range low (low + n) n refl (omega arith)))
    c.combinations.ensures.pool
