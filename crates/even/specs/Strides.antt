-- Which strides are tried, and what an even cycle keeps.
use Rattle.std.specs.Prelude.{◌≡◌, ◌==◌, ℕ, ◌*◌, ◌+◌, ◌-◌, ◌/◌, ◌%◌, ◌<◌, ◌≤◌, if◌then◌else◌, List, ◌∷◌, map, max, min, take, filter, slice_index, length}
use Rattle.std.specs.List.{All, range_with_len}
use Rattle.numbers.specs.Bounds.{max_cycle}
use Rattle.numbers.specs.Sums.{sum_below}
use Rattle.divisor.specs.Gcd.{gcd_of}
use Rattle.certificate.specs.Certificates.{Weighted, AreWeights}
use Rattle.even.specs.EvenCycles.{EvenOrder, IsFair}
use Rattle.even.specs.Slacks.{IsExcess, IsWithin}

-- where the places of each quorum end: the sum of its weight and those before
abbrev pub ends_of : List ℕ → List ℕ
ends_of weights = map (λ j. sum_below (λ k. slice_index weights k) (j + 1)) (range_with_len 0 (length weights))

-- how many strides are tried for a cycle of this length, besides 1: fewer for a long cycle
abbrev pub strides_tried : ℕ → ℕ
strides_tried len = max 2 (min 12 (3000000 / len))

-- 0.618 times a length: the golden section
abbrev pub golden_section : ℕ → ℕ
golden_section len = len * 618 / 1000

-- the numbers next to the golden section, in turn above and below it: turn 0 is the golden section
abbrev pub stride_at : ℕ → ℕ → ℕ
stride_at len turn =
    if turn % 2 == 0 then (golden_section len + turn / 2) % len else (golden_section len + len - (turn + 1) / 2) % len

-- the strides that are tried: 1, and those next to the golden section that have no divisor in common
-- with the cycle's length
abbrev pub strides_of : ℕ → List ℕ
strides_of len =
    1 ∷ take (strides_tried len) (filter (λ s. gcd_of s len == 1) (map (stride_at len) (range_with_len 0 len)))

-- weights with another stride
abbrev pub with_stride : Weighted → ℕ → EvenOrder
with_stride w stride = record { weights = w; stride = stride }

-- none of these strides has a smaller slack: any tickets in a row are within what they are within for
-- that stride
abbrev pub IsBestOf : List ℕ → EvenOrder → Type 0
IsBestOf strides o =
    All (λ s. (excess : ℕ) → IsWithin (with_stride o.weights s) excess → IsWithin o excess) strides

-- the first order has the smaller slack: tickets in a row are within some excess for it, and not for
-- the second order
abbrev pub IsMoreEven : EvenOrder → EvenOrder → Type 0
IsMoreEven o other = (excess : ℕ) × IsWithin o excess × ¬ IsWithin other excess

-- the first of these strides that has the smallest slack: none has a smaller one, and those before it
-- have a greater one
pub record IsFirstBest (strides : List ℕ) (o : EvenOrder) : Type 0 where
  pub place : ℕ
  pub inside : place < length strides
  pub is : slice_index strides place ≡ o.stride
  pub best : IsBestOf strides o
  pub earlier : (k : ℕ) → k < place → IsMoreEven o (with_stride o.weights (slice_index strides k))

-- what an even cycle keeps: weights, where the places of each quorum end, the stride, and its
-- excess
pub record IsEvenCycle (o : EvenOrder) (ends : List ℕ) (excess : ℕ) : Type 0 where
  pub sizes : AreWeights o.weights
  pub sums : ends ≡ ends_of o.weights.quorum_weights
  pub fair : IsFair o
  pub short : o.stride ≤ max_cycle
  pub smallest : IsExcess o excess
