use Rattle.generations.proofs.Order.{exchanges_in_order}
use Rattle.generations.proofs.laws.exchanges_are_in_order.Goals as goal

pub returns : goal.returns
returns c = exchanges_in_order
