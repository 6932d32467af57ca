use Rattle.std.proofs.Common.{◌≡◌, [], ap, sym, ◌∙◌, arith, cond, get_or, sum}
use Rattle.std.proofs.lemmas.List.{take_all}
use Rattle.std.proofs.lemmas.List.Sums.{sum_by_more}
use Rattle.std.proofs.lemmas.Option.{get_or_from_slice_get}
use Rattle.losses.specs.Losses.{each_left, is_left}
use Rattle.losses.proofs.LossLemmas.{left-le, length-each_left, sum-take_more_left}
use Rattle.losses.proofs.figures.total_left.Goals as goal

pub loop-j-preserved : goal.loop-j-preserved
loop-j-preserved c =
    let qs = c.args.coterie.now.quorums in
    let ws = c.args.weights.now in
    let down = c.args.down.now in
    let j = c.loop-j.j in
    let x = c.weight_left-total.result in
    let at : get_or qs j [] ≡ c.quorum.result.now = get_or_from_slice_get qs j c.quorum.result.now [] c.quorum.ensures.value in
    let is : x ≡ cond (is_left down (get_or qs j [])) (get_or ws j 0) 0 = c.weight_left-total.ensures ∙ ap (λ q. cond (is_left down q) (get_or ws j 0) 0) (sym at) in
    let more = sum-take_more_left down qs ws j (omega arith) c.requires.lengths x is in
    let less = left-le down (get_or qs j []) x (get_or ws j 0) is in
    (omega (arith, more), omega (arith, less, sum_by_more (λ y. y) ws j 0 (omega arith)))

pub returns-clause-total : goal.returns-clause-total
returns-clause-total c =
    let kept = each_left c.args.down.now c.args.coterie.now.quorums c.args.weights.now in
    let long = length-each_left c.args.down.now c.args.coterie.now.quorums c.args.weights.now c.requires.lengths in
    c.loop-j.invariant.0 ∙ ap sum (take_all c.loop-j.j kept (omega (arith, long, c.loop-j-test.false, c.requires.lengths)))
