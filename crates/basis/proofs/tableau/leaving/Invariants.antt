use Rattle.std.proofs.Common.{◌<◌, IfSome, length}
use Rattle.basis.proofs.tableau.leaving.Given as goal

abbrev pub invariant-loop-number : goal.invariant-loop-number
invariant-loop-number l = IfSome l.best (λ number. number < length l.rows)
