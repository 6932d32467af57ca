use Rattle.std.proofs.Common.{◌≤◌, ◌∷◌, take}
use Rattle.numbers.specs.Bounds.{max_cycle}
use Rattle.even.specs.EvenCycles.{IsFair}
use Rattle.even.specs.Slacks.{IsExcess}
use Rattle.even.specs.Strides.{with_stride, IsFirstBest}
use Rattle.even.proofs.strides.best_of.Given as goal

abbrev pub invariant-loop-stride : goal.invariant-loop-stride
invariant-loop-stride l = record {
  short : l.best.stride ≤ max_cycle;
  fair : IsFair (with_stride l.weights l.best.stride);
  excess : IsExcess (with_stride l.weights l.best.stride) l.best.excess;
  first : IsFirstBest (1 ∷ take l.stride-index l.stride-items) (with_stride l.weights l.best.stride);
}
