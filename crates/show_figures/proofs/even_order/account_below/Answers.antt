use Rattle.show_figures.proofs.even_order.account_below.Goals as goal

pub account_of-requires : goal.account_of-requires
account_of-requires c = rw (c.weights.ensures.value, c.deref.ensures.value) c.in_ok-quorums.ensures.in_range
