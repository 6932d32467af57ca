use Rattle.std.proofs.Common.{◌≡◌, ◌<◌, sym, ap, ◌∙◌, arith}
use Rattle.quorum_set.proofs.FilterLemmas.{passed_below, passed_below-none, passed_below-more, passed_below-other, passed_below-all}
use Rattle.quorum_set.proofs.filter.set_where.Goals as goal
use Rattle.quorum_set.proofs.filter.set_where.Goals.{then-passes, else-passes}

pub loop-i-init : goal.loop-i-init
loop-i-init g c = λ p agrees. c.empty-set.ensures ∙ passed_below-none p

pub loop-i-preserved : goal.loop-i-preserved
loop-i-preserved g c = λ p agrees.
    let i = c.loop-i.i in
    let lt : i < 64 = omega arith in
    let heard : c.passes.result ≡ p i = agrees i c.passes.result lt c.passes.ensures in
    elim c.if-passes.branch [
      | then-passes w ↦
          rw w.set-is (w.insert.ensures.members ∙ passed_below-more p i c.loop-i.set (c.loop-i.invariant p agrees) (sym heard ∙ w.if-passes.true))
      | else-passes w ↦ rw w.set-is (c.loop-i.invariant p agrees ∙ passed_below-other p i (sym heard ∙ w.if-passes.false))
    ]

pub returns : goal.returns
returns g c = λ p agrees.
    let last : c.loop-i.i ≡ 64 = omega arith in
    c.loop-i.invariant p agrees ∙ ap (passed_below p) last ∙ passed_below-all p
