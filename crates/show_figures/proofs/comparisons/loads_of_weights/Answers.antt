use Rattle.std.proofs.Common.{refl}
use Rattle.show_figures.proofs.comparisons.loads_of_weights.Goals as goal

pub returns-clause-loads : goal.returns-clause-loads
returns-clause-loads c = record {
  weights = c.args.weights.now;
  system = refl;
  capacities = refl;
  are = c.load.ensures.weights;
  load = c.load.ensures.value;
  bound = c.bound.ensures.value;
  bounded = c.bound.ensures.bounded;
  above = rw c.bound.ensures.value c.load.ensures.above;
}
