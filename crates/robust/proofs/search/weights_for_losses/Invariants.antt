use Rattle.std.specs.List.{All}
use Rattle.robust.specs.Robust.{AreWithin, IsPlanned}
use Rattle.robust.proofs.search.weights_for_losses.Given as goal

abbrev pub invariant-loop : goal.invariant-loop
invariant-loop l = record {
  within : AreWithin l.coterie l.capacities l.most l.limit l.weights;
  planned : All (IsPlanned l.coterie l.capacities) l.shown.failures.items;
}
