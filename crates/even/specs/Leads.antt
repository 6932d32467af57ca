-- Leads: how far a count runs ahead of its share along a list of quorums.
use Rattle.std.specs.Prelude.{◌≡◌, ℕ, ◌*◌, ◌+◌, ◌-◌, ◌%◌, ◌≤◌, zero, suc, if◌then◌else◌, List, [], length, map, slice_index, slice_index_or}
use Rattle.std.specs.List.{range_with_len}
use Rattle.numbers.specs.Sets.{has}
use Rattle.quorum_set.specs.Coteries.{QuorumSystem}
use Rattle.quorum_set.specs.Counts.{count_of}

-- what a place of a list of quorums gains: `gain` if its quorum has the voter
abbrev pub gains_of : QuorumSystem → ℕ → ℕ → List ℕ → ℕ → ℕ
gains_of s i gain order place = if has (slice_index_or s.quorums (slice_index order place) []) i then gain else 0

-- The lead after n steps. Each step adds what its place gains and takes off the cost, but no more
-- than there is.
abbrev pub lead_after : (ℕ → ℕ) → ℕ → ℕ → ℕ → ℕ
lead_after gains cost start zero = start
lead_after gains cost start (suc n) = (lead_after gains cost start n + gains n) - cost

-- n quorums of an order that begins again at its end, from the first one on
abbrev pub repeat_order : List ℕ → ℕ → ℕ → List ℕ
repeat_order order first n = map (λ t. slice_index order (t % length order)) (range_with_len first n)

-- The greatest lead: of any n quorums in a row, the gains are at most n times the cost and this more.
-- Of some they are exactly that.
pub record IsGreatestLead (s : QuorumSystem) (i gain cost : ℕ) (order : List ℕ) (lead : ℕ) : Type 0 where
  pub bound : (first n : ℕ) → gain * count_of s i (repeat_order order first n) ≤ n * cost + lead
  pub reached : (first : ℕ) × (n : ℕ) × (gain * count_of s i (repeat_order order first n) ≡ n * cost + lead)
