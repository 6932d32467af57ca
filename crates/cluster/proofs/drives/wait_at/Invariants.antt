use Rattle.std.specs.Prelude.{◌≤◌}
use Rattle.cluster.proofs.drives.wait_at.Given as goal

abbrev pub invariant-questions : goal.invariant-questions
invariant-questions g l = l.turns ≤ l.initial.turns

abbrev pub decreases-questions : goal.decreases-questions
decreases-questions g l = l.turns
