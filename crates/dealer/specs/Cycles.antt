-- The cycle of a plan: the order in which its quorums are dealt, each as often as its weight.
use Rattle.std.specs.Prelude.{◌≡◌, ◌⊎◌, ℕ, ◌+◌, ◌%◌, ◌<◌, List, filter, length, nat_le, slice_index, take}
use Rattle.std.specs.List.{flat_map, range_with_len}
use Rattle.numbers.specs.Counts.{greatest_below, times}
use Rattle.certificate.specs.Certificates.{Weighted, cycle_len}

-- round r: the numbers of the quorums whose weight is at least r, in ascending order
abbrev pub round_of : List ℕ → ℕ → List ℕ
round_of weights r = filter (λ j. nat_le r (slice_index weights j)) (range_with_len 0 (length weights))

-- the greatest weight, or 0 if there is none
abbrev pub greatest_weight : List ℕ → ℕ
greatest_weight weights = greatest_below (length weights) (λ j. slice_index weights j)

-- the cycle: round 1, round 2, and so on, up to the greatest weight
unfoldable pub cycle_of : List ℕ → List ℕ
cycle_of weights = flat_map (round_of weights) (range_with_len 1 (greatest_weight weights))

-- how often the quorum at a place of a list occurs there and before
abbrev pub turn_at : List ℕ → ℕ → ℕ
turn_at list place = times (slice_index list place) (take (place + 1) list)

-- The list goes by turns. Each quorum's first turn comes before any second turn, and so on. Equal
-- turns are in the order of the quorums' numbers.
abbrev pub GoesByTurns : List ℕ → Type 0
GoesByTurns list =
    (place later : ℕ) → place < later → later < length list
    → (turn_at list place < turn_at list later)
    ⊎ ((turn_at list place ≡ turn_at list later) × (slice_index list place < slice_index list later))

-- the quorum of a ticket: the tickets use the cycle in order, and begin again at its end
abbrev pub quorum_of_ticket : Weighted → ℕ → ℕ
quorum_of_ticket w ticket = slice_index (cycle_of w.quorum_weights) (ticket % cycle_len w)
