use Rattle.std.proofs.Common.{◌<◌, IfSome}
use Rattle.simplex.proofs.method.Method.leaving.Given as goal

abbrev pub invariant-loop-row : goal.invariant-loop-row
invariant-loop-row l = IfSome l.best (λ e. e.row < l.self.coterie.now.voters)
