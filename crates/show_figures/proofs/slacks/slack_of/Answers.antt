use Rattle.std.proofs.Common.{◌∙◌}
use Rattle.show_figures.proofs.slacks.slack_of.Goals as goal

pub returns : goal.returns
returns c = record {
  order = c.in_ok-cycle.cycle;
  weights = c.in_ok-cycle.ensures.weights ∙ c.in_ok-copied.ensures.value;
  first = rw c.in_ok-copied.ensures.value at c.in_ok-cycle.ensures.first;
  is = c.slack.ensures;
}
