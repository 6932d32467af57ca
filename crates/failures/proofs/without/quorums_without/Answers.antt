use Rattle.std.proofs.Common.{arith}
use Rattle.std.proofs.lemmas.Bool.Decides.{nat_tests}
use Rattle.failures.proofs.FailureLemmas.{filter_next}
use Rattle.failures.proofs.without.quorums_without.Goals as goal

pub loop-j-preserved : goal.loop-j-preserved
loop-j-preserved c =
    filter_next _ c.args.coterie.now.quorums c.loop-j.left.items _ c.loop-j.j c.quorum.result.now c.quorum.ensures.value
    (grind (arith, nat_tests, c.loop-j-test.true, c.count-j-end.ensures.value)) c.loop-j.invariant
    c.in_ok-push_without.ensures
