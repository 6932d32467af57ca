use Rattle.std.proofs.Common.{◌≡◌, slice_index}
use Rattle.numbers.specs.Counts.{greatest_below}
use Rattle.show_figures.proofs.account.greatest_of.Given as goal

abbrev pub invariant-loop-number : goal.invariant-loop-number
invariant-loop-number l = l.greatest ≡ greatest_below l.number-index (λ j. slice_index l.numbers j)
