use Rattle.std.proofs.Common.{◌≡◌, ◌+◌, map, slice_index}
use Rattle.std.specs.List.{range_with_len}
use Rattle.numbers.specs.Sums.{sum_below}
use Rattle.even.proofs.places.ends_of.Given as goal

abbrev pub invariant-loop-quorum : goal.invariant-loop-quorum
invariant-loop-quorum l = record {
  end_is : l.end ≡ sum_below (λ k. slice_index l.weights.quorum_weights k) l.quorum;
  ends_are : l.ends.items ≡ map (λ j. sum_below (λ k. slice_index l.weights.quorum_weights k) (j + 1)) (range_with_len 0 l.quorum);
}
