use Rattle.world.proofs.Traces.{Ran}
use Rattle.world.proofs.trace.run.Given as goal

abbrev pub invariant-loop-place : goal.invariant-loop-place
invariant-loop-place l = Ran l.fn.plans l.fn.clients l.fn.limit l.fn.steps l.place l.world l.refused.items
