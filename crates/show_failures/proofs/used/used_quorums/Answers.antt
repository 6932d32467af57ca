use Rattle.std.proofs.Common.{◌∷◌, ◌++◌, [], ap, arith, ◌∙◌}
use Rattle.show_failures.proofs.UsedLemmas.{with_used, without_used}
use Rattle.show_failures.proofs.used.used_quorums.Goals as goal
use Rattle.show_failures.proofs.used.used_quorums.Goals.{then-weight-gt0+in_ok-push, else-weight-gt0}

pub loop-number-preserved : goal.loop-number-preserved
loop-number-preserved c =
    let w = c.args.weights.now in
    let n = c.loop-number.number in
    elim c.if-weight-gt0.branch [
      | then-weight-gt0+in_ok-push k ↦ with_used w n _ k.quorum.result.now c.loop-number.used.items c.if-weight-gt0.used.items c.loop-number.invariant c.weight.ensures.value k.if-weight-gt0.true
          (rw k.coterie-then-weight-gt0.ensures.value at k.quorum.ensures.value) (ap (λ v. v.items) k.used-is ∙ k.in_ok-push.ensures.items ∙ ap (λ q. c.loop-number.used.items ++ q ∷ []) k.copy.ensures.value)
      | else-weight-gt0 k ↦ without_used w n _ c.if-weight-gt0.used.items (ap (λ v. v.items) k.used-is ∙ c.loop-number.invariant) c.weight.ensures.value
          (omega (arith, k.if-weight-gt0.false))
    ]
