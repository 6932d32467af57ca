use Rattle.std.proofs.Common.{ℕ, ◌+◌, Option, subst, sym, ◌∙◌, arith}
use Rattle.replay.proofs.DrawLemmas.{SoFar, SoFar-right, SoFar-end, SoFar-wrong}
use Rattle.replay.proofs.check.least_wrong.Goals as goal
use Rattle.replay.proofs.check.least_wrong.Goals.{then-quorum_at-draw, else-quorum_at-draw}

pub loop-draw-preserved : goal.loop-draw-preserved
loop-draw-preserved c =
    let w = c.args.cycle.now in
    let draws = c.args.draws.now in
    let i = c.loop-draw.draw-index in
    let value = c.quorum_at.ensures.value in
    elim c.if-quorum_at-draw.branch [
      | then-quorum_at-draw t ↦
          subst (λ (found : Option ℕ). SoFar w draws (i + 1) found) (sym t.least-is)
          (SoFar-wrong w draws i (0, 0, 0) c.loop-draw.least t.lesser.result c.loop-draw-test.true c.loop-draw.invariant
          (λ right. t.if-quorum_at-draw.true (value ∙ sym right)) t.lesser.ensures.none t.lesser.ensures.some)
      | else-quorum_at-draw t ↦
          subst (λ (found : Option ℕ). SoFar w draws (i + 1) found) (sym t.least-is)
          (SoFar-right w draws i (0, 0, 0) c.loop-draw.least c.loop-draw-test.true c.loop-draw.invariant (sym t.if-quorum_at-draw.false ∙ value))
    ]

pub returns : goal.returns
returns c = SoFar-end c.args.cycle.now c.args.draws.now c.loop-draw.draw-index c.loop-draw.least (omega arith) c.loop-draw.invariant
