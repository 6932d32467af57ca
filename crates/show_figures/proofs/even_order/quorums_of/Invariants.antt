use Rattle.std.proofs.Common.{◌≡◌, ◌<◌, length, All}
use Rattle.even.specs.EvenCycles.{window}
use Rattle.show_figures.proofs.even_order.quorums_of.Given as goal

abbrev pub invariant-loop-ticket : goal.invariant-loop-ticket
invariant-loop-ticket l = record {
  so_far : l.quorums.items ≡ window l.cycle 0 l.ticket;
  in_range : All (λ j. j < length l.cycle.weights.system.quorums) l.quorums.items;
}
