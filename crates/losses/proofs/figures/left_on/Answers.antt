use Rattle.std.proofs.Common.{◌≡◌, [], ap, sym, refl, ◌∙◌, arith, true, false, cond, get_or}
use Rattle.std.proofs.lemmas.List.Sums.{sum_by_more}
use Rattle.std.proofs.lemmas.Option.{get_or_from_slice_get}
use Rattle.numbers.specs.Sets.{has}
use Rattle.losses.specs.Losses.{is_left}
use Rattle.losses.proofs.LossLemmas.{left-le, weight_on-drop_left}
use Rattle.losses.proofs.figures.left_on.Goals as goal
use Rattle.losses.proofs.figures.left_on.Goals.{then-has, else-has}

pub loop-j-preserved : goal.loop-j-preserved
loop-j-preserved c =
    let qs = c.args.coterie.now.quorums in
    let ws = c.args.weights.now in
    let down = c.args.down.now in
    let j = c.loop-j.j in
    let at : get_or qs j [] ≡ c.quorum-quorum.result.now = get_or_from_slice_get qs j c.quorum-quorum.result.now [] c.quorum-quorum.ensures.value in
    let on : has (get_or qs j []) c.args.voter ≡ c.has.result = ap (λ q. has q c.args.voter) at ∙ sym c.has.ensures in
    let kept = cond (is_left down (get_or qs j [])) (get_or ws j 0) 0 in
    let more = weight_on-drop_left down qs ws j (omega arith) c.requires.lengths c.args.voter in
    let longer = sum_by_more (λ y. y) ws j 0 (omega arith) in
    elim c.if-has.branch [
      | then-has w ↦
          let is : w.weight_left-left.result ≡ kept = w.weight_left-left.ensures ∙ ap (λ q. cond (is_left down q) (get_or ws j 0) 0) (sym at) in
          let less = left-le down (get_or qs j []) w.weight_left-left.result (get_or ws j 0) is in
          (omega (arith, more true w.weight_left-left.result (on ∙ w.if-has.true) is), omega (arith, less, longer))
      | else-has w ↦ (omega (arith, more false kept (on ∙ w.if-has.false) refl), omega (arith, longer))
    ]
