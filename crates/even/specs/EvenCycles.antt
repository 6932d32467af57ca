-- The even cycle of weights: tickets go over its places by a stride.
use Rattle.std.specs.Prelude.{ℕ, ◌*◌, ◌%◌, List, map, replicate, slice_index, length, sum_by}
use Rattle.std.specs.Int.{IsGcd}
use Rattle.std.specs.List.{flat_map, range_with_len}
use Rattle.certificate.specs.Certificates.{Weighted, cycle_len}

-- the places of a cycle: each quorum as often as its weight, one quorum after another
unfoldable pub places_of : List ℕ → List ℕ
places_of weights = flat_map (λ j. replicate (slice_index weights j) j) (range_with_len 0 (length weights))

-- weights, and a stride: how many places further on each ticket is than the one before
pub record EvenOrder : Type 0 where
  pub weights : Weighted
  pub stride : ℕ

-- the quorum of a ticket: the one at the place that `ticket` strides lead to from place 0, if place 0 follows the last
-- place
abbrev pub even_quorum : EvenOrder → ℕ → ℕ
even_quorum o ticket = slice_index (places_of o.weights.quorum_weights) (ticket * o.stride % cycle_len o.weights)

-- the quorums of n tickets in a row, from the first one on
abbrev pub window : EvenOrder → ℕ → ℕ → List ℕ
window o first n = map (even_quorum o) (range_with_len first n)

-- the stride has no divisor in common with the length of a cycle, so that no place is missed
abbrev pub IsFair : EvenOrder → Type 0
IsFair o = IsGcd o.stride (cycle_len o.weights) 1

-- tickets in a row, as one process uses them: the first, and how many
abbrev pub Row : Type 0
Row = ℕ × ℕ

-- the quorums of these rows of tickets, one row after another
abbrev pub quorums_of_rows : EvenOrder → List Row → List ℕ
quorums_of_rows o rows = flat_map (λ row. window o row.0 row.1) rows

-- rows of whole cycles, for each its first ticket and the number of its cycles
abbrev pub whole_rows : EvenOrder → List Row → List Row
whole_rows o cycles = map (λ row. (row.0, row.1 * cycle_len o.weights)) cycles

-- how many cycles these are in all
abbrev pub total_of : List Row → ℕ
total_of cycles = sum_by (λ row. row.1) cycles
