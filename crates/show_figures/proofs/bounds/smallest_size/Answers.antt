use Rattle.std.proofs.Common.{[], ap, arith, length}
use Rattle.std.proofs.lemmas.Option.{get_or_from_slice_get}
use Rattle.numbers.proofs.CountLemmas.{least_of-more}
use Rattle.show_figures.proofs.bounds.smallest_size.Goals as goal

pub loop-number-preserved : goal.loop-number-preserved
loop-number-preserved c =
    let quorums = c.args.coterie.now.quorums in
    let at = get_or_from_slice_get quorums c.loop-number.number c.quorum-in-loop-number.result.now [] c.quorum-in-loop-number.ensures.value in
    let more = least_of-more length quorums c.loop-number.number [] (omega arith) (omega arith) in
    omega (arith, more, ap length at)
