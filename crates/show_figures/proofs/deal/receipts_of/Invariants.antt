use Rattle.std.proofs.Common.{◌≡◌, map}
use Rattle.std.specs.List.{range_with_len}
use Rattle.show_figures.specs.Deals.{even_receipt}
use Rattle.show_figures.proofs.deal.receipts_of.Given as goal

abbrev pub invariant-loop-ticket : goal.invariant-loop-ticket
invariant-loop-ticket l = l.receipts.items ≡ map (even_receipt l.cycle) (range_with_len 0 l.ticket)
