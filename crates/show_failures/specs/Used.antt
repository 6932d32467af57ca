-- The quorums that a cycle of weights uses.
use Rattle.std.specs.Prelude.{ℕ, Bool, nat_lt, List, [], length, map, filter, slice_index, slice_index_or}
use Rattle.std.specs.List.{range_with_len}
use Rattle.quorum_set.specs.Coteries.{QuorumSystem}
use Rattle.certificate.specs.Certificates.{Weighted}

-- whether a cycle uses the quorum with this number: its weight is not 0
abbrev pub is_used : Weighted → ℕ → Bool
is_used w j = nat_lt 0 (slice_index w.quorum_weights j)

-- the quorums below this number that a cycle uses, in the order of their numbers
abbrev pub used_below : Weighted → ℕ → List (List ℕ)
used_below w n = map (λ j. slice_index_or w.system.quorums j []) (filter (is_used w) (range_with_len 0 n))

-- the quorums that a cycle uses, over the same voters
abbrev pub used_system : Weighted → QuorumSystem
used_system w = record { voters = w.system.voters; quorums = used_below w (length w.system.quorums) }
