use Rattle.even.proofs.SlackLemmas.{IsFirstBest-one_stride}
use Rattle.even.proofs.laws.even_orders_are_one.Goals as goal

pub returns : goal.returns
returns c = IsFirstBest-one_stride
