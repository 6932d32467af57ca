use Rattle.std.proofs.Common.{◌≡◌, ◌≤◌}
use Rattle.simplex.proofs.candidate.improve.Given as goal

abbrev pub invariant-loop-step : goal.invariant-loop-step
invariant-loop-step l = (l.method.coterie ≡ l.initial.method.coterie) × (l.method.made ≤ l.step)
