use Rattle.robust.specs.Robust.{AreWithin}
use Rattle.robust.proofs.search.rounded.Given as goal

abbrev pub invariant-loop-shorter : goal.invariant-loop-shorter
invariant-loop-shorter l = AreWithin l.fn.weights.system l.fn.weights.capacities l.most l.limit l.best
