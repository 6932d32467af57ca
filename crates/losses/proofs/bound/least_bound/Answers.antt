use Rattle.std.proofs.Common.{[], ap, arith}
use Rattle.std.proofs.lemmas.Option.{get_or_from_slice_get}
use Rattle.losses.specs.Regrets.{bound_at}
use Rattle.numbers.proofs.CountLemmas.{least_of-more}
use Rattle.losses.proofs.bound.least_bound.Goals as goal

pub loop-j-preserved : goal.loop-j-preserved
loop-j-preserved c =
    let quorums = c.coterie-coterie.result.now.quorums in
    let bound = bound_at c.args.weights.now c.args.limit c.args.multipliers.now c.args.failures.now in
    let at = get_or_from_slice_get quorums c.loop-j.j c.quorum-in-loop-j.result.now [] c.quorum-in-loop-j.ensures.value in
    let more = least_of-more bound quorums c.loop-j.j [] (omega arith) (omega arith) in
    omega (arith, more, ap bound at)
