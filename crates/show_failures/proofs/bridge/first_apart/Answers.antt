use Rattle.std.proofs.Common.{◌<◌, ◌∙◌, arith, length, sym}
use Rattle.std.proofs.lemmas.Bool.Decides.{nat_tests}
use Rattle.show_failures.proofs.BridgeLemmas.{apart-here, apart-later}
use Rattle.show_failures.proofs.bridge.first_apart.Goals as goal

pub returns-in-Some : goal.returns-in-Some
returns-in-Some c =
    let lt : c.loop-number.number < length c.args.coterie.now.quorums = grind (arith, nat_tests, c.loop-number-test.true, c.count-number-end.ensures.value) in
    sym (apart-here c.args.coterie.now.quorums c.args.sets.now c.loop-number.number c.in-Some.place c.quorum.result.now c.quorum.ensures.value lt (sym c.in-Some.ensures)) ∙ c.loop-number.invariant

pub loop-number-preserved : goal.loop-number-preserved
loop-number-preserved c =
    let lt : c.loop-number.number < length c.args.coterie.now.quorums = grind (arith, nat_tests, c.loop-number-test.true, c.count-number-end.ensures.value) in
    sym (apart-later c.args.coterie.now.quorums c.args.sets.now c.loop-number.number c.quorum.result.now c.quorum.ensures.value lt (sym c.in_default.ensures)) ∙ c.loop-number.invariant
