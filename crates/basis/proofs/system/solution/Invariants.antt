use Rattle.std.proofs.Common.{◌≡◌, vec_len}
use Rattle.basis.proofs.system.solution.Given as goal

abbrev pub invariant-loop-variable : goal.invariant-loop-variable
invariant-loop-variable l = vec_len l.solved ≡ l.variable

abbrev pub invariant-loop-row : goal.invariant-loop-row
invariant-loop-row l = vec_len l.values ≡ l.row-index
