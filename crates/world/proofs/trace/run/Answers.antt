use Rattle.std.proofs.Common.{ℕ, ◌+◌, List, sym, ap, subst, ◌∙◌, arith}
use Rattle.world_state.specs.declared.fault.WorldFault.{WorldFault}
use Rattle.world.proofs.Traces.{Ran, Ran-on, Ran-past}
use Rattle.world.proofs.trace.run.Goals as goal
use Rattle.world.proofs.trace.run.Goals.{in-Ok, in-Err+in_ok-keep-in-Err}

pub loop-place-preserved : goal.loop-place-preserved
loop-place-preserved c =
    let before = c.loop-place-test.true in
    elim c.match-step.branch [
      | in-Ok w ↦
          subst (λ (l : List (ℕ × WorldFault)). Ran c.args.plans c.args.clients c.args.limit c.args.steps.now (c.loop-place.place + 1) c.step.new.self l) (sym (ap (λ v. v.items) w.refused-is))
          (Ran-on c.args.plans c.args.clients c.args.limit c.args.steps.now c.loop-place.place c.loop-place.world c.step.new.self c.loop-place.refused.items _ w.in-Ok.field-0
          c.loop-place.invariant (omega arith)
          w.in-Ok.ensures.plans w.in-Ok.ensures.stepped)
      | in-Err+in_ok-keep-in-Err w ↦
          subst (λ (l : List (ℕ × WorldFault)). Ran c.args.plans c.args.clients c.args.limit c.args.steps.now (c.loop-place.place + 1) c.step.new.self l)
          (sym (ap (λ v. v.items) w.refused-is ∙ w.in_ok-keep-in-Err.ensures.kept))
          (Ran-past c.args.plans c.args.clients c.args.limit c.args.steps.now c.loop-place.place c.loop-place.world c.step.new.self c.loop-place.refused.items _ w.in-Err.fault
          c.loop-place.invariant (omega arith)
          w.in-Err.ensures.unchanged w.in-Err.ensures.refused w.in_ok-keep-in-Err.ensures.reason)
    ]
