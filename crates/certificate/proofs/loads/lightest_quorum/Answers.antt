use Rattle.std.proofs.Common.{[], ap, arith}
use Rattle.std.proofs.lemmas.Option.{get_or_from_slice_get}
use Rattle.certificate.specs.Loads.{weight_within}
use Rattle.numbers.proofs.CountLemmas.{least_of-more}
use Rattle.certificate.proofs.loads.lightest_quorum.Goals as goal

pub loop-j-preserved : goal.loop-j-preserved
loop-j-preserved c =
    let quorums = c.args.coterie.now.quorums in
    let at = get_or_from_slice_get quorums c.loop-j.j c.quorum-in-loop-j.result.now [] c.quorum-in-loop-j.ensures.value in
    let more = least_of-more (weight_within c.args.weights.now) quorums c.loop-j.j [] (omega arith) (omega arith) in
    (omega (arith, more, ap (weight_within c.args.weights.now) at), omega arith)
