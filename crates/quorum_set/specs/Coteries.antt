-- Coteries: lists of quorums. Any two quorums have a common member, and none lies within another
-- (Garcia-Molina and Barbara, JACM 32(4), 1985, section 2).
use Rattle.std.specs.Prelude.{◌⊎◌, ◌≡◌, ℕ, ◌+◌, ◌<◌, ◌≤◌, Bool, true, false, not, ◌||◌, List, [], ◌∷◌, length, ◌==◌, nat_lt, nat_le, if◌then◌else◌, slice_index_or, position, option_map}
use Rattle.std.specs.Option.{option_or}
use Rattle.std.specs.List.{All, AllPairs}
use Rattle.std.specs.Prelude.{Option, Result, Ok, Err, None, Some}
use Rattle.numbers.specs.Bounds.{max_voters, max_quorums}
use Rattle.numbers.specs.Sets.{has, meet, within, IsSet}
use Rattle.quorum_set.specs.declared.fault.CoterieFault.{CoterieFault}
use Rattle.quorum_set.specs.declared.fault.CoterieFault.TheVariants.{NoVoters, TooManyVoters, NoQuorums, TooManyQuorums, EmptyQuorum, VoterOutOfRange, Disjoint, Contained}

-- the number of voters, and each quorum as the ascending list of its members
pub record QuorumSystem : Type 0 where
  pub voters : ℕ
  pub quorums : List (List ℕ)

-- There are 1 to 64 voters and 1 to 4096 quorums. Each quorum is a non-empty set of voters. Any two
-- quorums at different places have a common member, and neither is within the other.
pub record IsCoterie (s : QuorumSystem) : Type 0 where
  pub some_voter : 0 < s.voters
  pub few_voters : s.voters ≤ max_voters
  pub some_quorum : 0 < length s.quorums
  pub few_quorums : length s.quorums ≤ max_quorums
  pub sets : All IsSet s.quorums
  pub not_empty : All (λ q. 0 < length q) s.quorums
  pub in_range : All (λ q. All (λ i. i < s.voters) q) s.quorums
  pub meets : AllPairs (λ q r. meet q r ≡ true) s.quorums
  pub apart : AllPairs (λ q r. (within q r ≡ false) × (within r q ≡ false)) s.quorums

-- the first number of a list that is not below n
abbrev pub first_from : ℕ → List ℕ → Option ℕ
first_from n [] = None
first_from n (i ∷ s) = if nat_le n i then Some i else first_from n s

-- the place, counted from j on, of the first set that has a number not below n, and the first such
-- number
abbrev pub first_outside : ℕ → ℕ → List (List ℕ) → Option (ℕ × ℕ)
first_outside n j [] = None
first_outside n j (s ∷ sets) = option_or (option_map (λ i. (j, i)) (first_from n s)) (first_outside n (j + 1) sets)

-- the places, counted from j on, of the first pair of a set and a later one that passes the test
abbrev pub first_pair : (List ℕ → List ℕ → Bool) → ℕ → List (List ℕ) → Option (ℕ × ℕ)
first_pair test j [] = None
first_pair test j (s ∷ sets) =
    option_or (option_map (λ k. (j, j + 1 + k)) (position (test s) sets)) (first_pair test (j + 1) sets)

-- the pair of places passes the test, and is the smallest that does: by the first place, then by
-- the second
abbrev pub IsLeastPair : (List ℕ → List ℕ → Bool) → List (List ℕ) → ℕ → ℕ → Type 0
IsLeastPair test sets j k =
    (j < k) × (k < length sets) × (test (slice_index_or sets j []) (slice_index_or sets k []) ≡ true)
    × ((a b : ℕ) → a < b → b < length sets
    → test (slice_index_or sets a []) (slice_index_or sets b []) ≡ true → (j < a) ⊎ ((j ≡ a) × (k ≤ b)))

-- The number is a member of the set at the place, and is not below n. No earlier set has such a
-- number, and this set has no smaller one.
abbrev pub IsLeastStray : ℕ → List (List ℕ) → ℕ → ℕ → Type 0
IsLeastStray n sets j i =
    (j < length sets) × (has (slice_index_or sets j []) i ≡ true) × (n ≤ i)
    × ((a k : ℕ) → a < length sets → has (slice_index_or sets a []) k ≡ true → n ≤ k → (j < a) ⊎ ((j ≡ a) × (i ≤ k)))

-- the sets have no common member
abbrev pub are_disjoint : List ℕ → List ℕ → Bool
are_disjoint s t = not (meet s t)

-- one of the sets is within the other
abbrev pub is_one_within : List ℕ → List ℕ → Bool
is_one_within s t = within s t || within t s

-- the fault if the test passes
abbrev pub fault_if : Bool → CoterieFault → Option CoterieFault
fault_if b e = if b then Some e else None

-- the first fault of n voters and these sets
abbrev pub first_fault : ℕ → List (List ℕ) → Option CoterieFault
first_fault n sets =
    option_or (fault_if (n == 0) NoVoters)
    (option_or (fault_if (nat_lt max_voters n) TooManyVoters)
    (option_or (fault_if (length sets == 0) NoQuorums)
    (option_or (fault_if (nat_lt max_quorums (length sets)) TooManyQuorums)
    (option_or (option_map EmptyQuorum (position (λ s. length s == 0) sets))
    (option_or (option_map (λ p. VoterOutOfRange p.0 p.1) (first_outside n 0 sets))
    (option_or (option_map (λ p. Disjoint p.0 p.1) (first_pair are_disjoint 0 sets))
    (option_map (λ p. Contained p.0 p.1) (first_pair is_one_within 0 sets))))))))

-- the system of quorums, or the fault if there is one
abbrev pub coterie_or : Option CoterieFault → QuorumSystem → Result QuorumSystem CoterieFault
coterie_or None s = Ok s
coterie_or (Some e) s = Err e

-- the coterie of these sets, or their first fault
abbrev pub coterie_of : ℕ → List (List ℕ) → Result QuorumSystem CoterieFault
coterie_of n sets = coterie_or (first_fault n sets) (record { voters = n; quorums = sets })
