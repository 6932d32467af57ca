use Rattle.std.proofs.Common.{[], ap, arith}
use Rattle.std.proofs.lemmas.Option.{get_or_from_slice_get}
use Rattle.certificate.specs.Loads.{weight_within}
use Rattle.numbers.proofs.CountLemmas.{least_of-more}
use Rattle.show_figures.proofs.bounds.smallest_capacity.Goals as goal

pub loop-number-preserved : goal.loop-number-preserved
loop-number-preserved c =
    let quorums = c.args.coterie.now.quorums in
    let at = get_or_from_slice_get quorums c.loop-number.number c.quorum-in-loop-number.result.now [] c.quorum-in-loop-number.ensures.value in
    let more = least_of-more (weight_within c.args.capacities.now) quorums c.loop-number.number [] (omega arith) (omega arith) in
    omega (arith, more, ap (weight_within c.args.capacities.now) at)
