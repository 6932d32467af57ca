use Rattle.std.proofs.Common.{◌≡◌, [], length, slice_index_or}
use Rattle.numbers.specs.Counts.{greatest_below}
use Rattle.show_figures.proofs.sizes.largest_size.Given as goal

-- the size of the largest of the quorums so far
abbrev pub invariant-loop-number : goal.invariant-loop-number
invariant-loop-number l = l.most ≡ greatest_below l.number (λ j. length (slice_index_or l.coterie.quorums j []))
