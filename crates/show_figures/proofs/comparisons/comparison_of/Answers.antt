use Rattle.std.proofs.Common.{◌∙◌}
use Rattle.show_figures.proofs.comparisons.comparison_of.Goals as goal

pub returns-clause-one_down : goal.returns-clause-one_down
returns-clause-one_down c = record {
  weights = c.in_ok-weights.weights;
  system = c.in_ok-weights.ensures.coterie ∙ c.coterie-coterie.ensures.value;
  capacities = c.in_ok-weights.ensures.capacities ∙ c.capacities-capacities.ensures.value;
  are = c.worst_one_down.ensures.weights;
  load = c.loads_of_weights.ensures.load;
  bound = c.loads_of_weights.ensures.bound;
  worst = c.worst_one_down.ensures.worst;
}
