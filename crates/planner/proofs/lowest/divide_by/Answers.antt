use Rattle.std.proofs.Common.{ℕ, ◌/◌, ◌<◌, get_or, length, sym, arith}
use Rattle.std.proofs.lemmas.Grind.{get_or_default_zero}
use Rattle.std.proofs.lemmas.List.Edits.{map_over_more}
use Rattle.planner.proofs.lowest.divide_by.Goals as goal

pub loop-weight-preserved : goal.loop-weight-preserved
loop-weight-preserved c =
    let i : ℕ = c.loop-weight.weight-index in
    let lt : i < length c.loop-weight.weights = omega arith in
    map_over_more (λ w. w / c.args.divisor) c.args.weights.now c.loop-weight.weights i (get_or c.loop-weight.weights i 0) (omega arith) c.loop-weight.invariant
    (sym (get_or_default_zero c.loop-weight.weights i (get_or c.loop-weight.weights i 0) lt))
