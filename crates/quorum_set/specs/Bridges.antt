-- Bridges: two coteries over the same voters that may be in use at once. Each quorum of one has a common member with each
-- quorum of the other (A. W. Fu, IEEE TPDS 8(1), 1997, calls two such sets of quorums a bicoterie).
use Rattle.std.specs.Prelude.{◌⊎◌, ◌≡◌, ℕ, ◌+◌, ◌<◌, ◌≤◌, Bool, true, false, List, [], ◌∷◌, length, slice_index_or, position, option_map}
use Rattle.std.specs.Option.{option_or}
use Rattle.std.specs.List.{All}
use Rattle.std.specs.Prelude.{Option, Result, Ok, Err, None, Some}
use Rattle.numbers.specs.Sets.{meet}
use Rattle.numbers.specs.Results.{GivesUnless}
use Rattle.quorum_set.specs.Coteries.{QuorumSystem, IsCoterie, are_disjoint}
use Rattle.quorum_set.specs.declared.fault.BridgeFault.{BridgeFault}
use Rattle.quorum_set.specs.declared.fault.BridgeFault.TheVariants.{NotBridged, OutOfMemory}

-- the coterie in use first, and the one that is used in its place later
pub record Bridged : Type 0 where
  pub first : QuorumSystem
  pub second : QuorumSystem

-- each set of the first list has a common member with each set of the second
abbrev pub AreBridged : List (List ℕ) → List (List ℕ) → Type 0
AreBridged firsts seconds = All (λ q. All (λ r. meet q r ≡ true) seconds) firsts

-- two coteries over the same voters, and each quorum of one meets each quorum of the other
pub record IsBridge (b : Bridged) : Type 0 where
  pub first : IsCoterie b.first
  pub second : IsCoterie b.second
  pub same_voters : b.first.voters ≡ b.second.voters
  pub meets : AreBridged b.first.quorums b.second.quorums

-- the places of the first pair of a set of the first list, counted from j on, and a set of the second list with no
-- common member
abbrev pub first_apart : ℕ → List (List ℕ) → List (List ℕ) → Option (ℕ × ℕ)
first_apart j [] seconds = None
first_apart j (s ∷ sets) seconds =
    option_or (option_map (λ k. (j, k)) (position (are_disjoint s) seconds)) (first_apart (j + 1) sets seconds)

-- The sets at the two places have no common member. The pair of places is the smallest such one: by the place in the
-- first list, then by the place in the second.
abbrev pub IsLeastApart : List (List ℕ) → List (List ℕ) → ℕ → ℕ → Type 0
IsLeastApart firsts seconds j k =
    (j < length firsts) × (k < length seconds) × (meet (slice_index_or firsts j []) (slice_index_or seconds k []) ≡ false)
    × ((a b : ℕ) → a < length firsts → b < length seconds
    → meet (slice_index_or firsts a []) (slice_index_or seconds b []) ≡ false → (j < a) ⊎ ((j ≡ a) × (k ≤ b)))

-- the bridge, or the fault with this pair if there is one
abbrev pub bridge_or : Option (ℕ × ℕ) → Bridged → Result Bridged BridgeFault
bridge_or None b = Ok b
bridge_or (Some p) b = Err (NotBridged p.0 p.1)

-- the bridge from the first coterie to the second, or the first pair of quorums that do not meet
abbrev pub bridge_of : QuorumSystem → QuorumSystem → Result Bridged BridgeFault
bridge_of s t = bridge_or (first_apart 0 s.quorums t.quorums) (record { first = s; second = t })

-- the fault is out of memory
abbrev pub is_out_of_memory : BridgeFault → Bool
is_out_of_memory OutOfMemory = true
is_out_of_memory fault = false

-- the result is the wanted bridge, unless memory ran out
abbrev pub Gives : Result Bridged BridgeFault → Result Bridged BridgeFault → Type 0
Gives result wanted = GivesUnless is_out_of_memory (λ b. b) result wanted
