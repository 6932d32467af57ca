use Rattle.std.proofs.Common.{◌≤◌}
use Rattle.near.proofs.tickets.best_length.Given as goal

abbrev pub invariant-loop-before : goal.invariant-loop-before
invariant-loop-before l = l.best ≤ l.most
