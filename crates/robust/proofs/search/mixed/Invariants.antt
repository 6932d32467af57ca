use Rattle.robust.specs.Robust.{AreWithin}
use Rattle.robust.proofs.search.mixed.Given as goal

abbrev pub invariant-loop-more : goal.invariant-loop-more
invariant-loop-more l = AreWithin l.fn.weights.system l.fn.weights.capacities l.most l.limit l.best
