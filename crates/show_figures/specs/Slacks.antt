-- The slack of weights.
use Rattle.std.specs.Prelude.{◌≡◌}
use Rattle.certificate.specs.Certificates.{Weighted, cycle_len}
use Rattle.even.specs.EvenCycles.{EvenOrder}
use Rattle.even.specs.Slacks.{IsSlack}
use Rattle.even.specs.Strides.{IsFirstBest, strides_of}
use Rattle.even.specs.declared.slack.Slack.{Slack}

-- The slack is that of the even order of the weights: its stride is the first of smallest slack among those
-- that are tried. By the law `even_orders_are_one` there is one such order.
pub record IsEvenSlack (w : Weighted) (slack : Slack) : Type 0 where
  pub order : EvenOrder
  pub weights : order.weights ≡ w
  pub first : IsFirstBest (strides_of (cycle_len w)) order
  pub is : IsSlack order slack
