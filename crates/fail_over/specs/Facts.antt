-- What the laws say of voters, quorums and tickets.
use Rattle.std.specs.Prelude.{ℕ, ◌≡◌, ◌+◌, ◌<◌, ◌⊎◌, true, false, List, length, map, slice_index, Option, None, Some}
use Rattle.std.specs.List.{range_with_len}
use Rattle.numbers.specs.Sets.{has, members_of}
use Rattle.fail_over.specs.Choices.{next_quorum, place_of, quorum_of}
use Rattle.fail_over.specs.declared.waiting.Waiting.{Waiting}

-- ---- voters

-- the voter is in this set
abbrev pub IsIn : ℕ → ℕ → Type 0
IsIn voters v = has (members_of voters) v ≡ true

abbrev pub IsNotIn : ℕ → ℕ → Type 0
IsNotIn voters v = has (members_of voters) v ≡ false

-- the quorum has no voter that is avoided, and none that has no room
abbrev pub WouldDo : ℕ → ℕ → ℕ → Type 0
WouldDo avoided full quorum = (v : ℕ) → IsIn quorum v → IsNotIn avoided v × IsNotIn full v

-- the quorum has a voter that is avoided, or one that has no room
abbrev pub IsHindered : ℕ → ℕ → ℕ → Type 0
IsHindered avoided full quorum = (v : ℕ) × IsIn quorum v × (IsIn avoided v ⊎ IsIn full v)

-- all voters of the quorum have room
abbrev pub HasRoom : ℕ → ℕ → Type 0
HasRoom full quorum = (v : ℕ) → IsIn quorum v → IsNotIn full v

-- a voter of the quorum has no room
abbrev pub HasNoRoom : ℕ → ℕ → Type 0
HasNoRoom full quorum = (v : ℕ) × IsIn quorum v × IsIn full v

-- ---- tickets

-- each of these quorums is at a place of the cycle
abbrev pub AreIn : List ℕ → List ℕ → Type 0
AreIn quorums cycle =
    (i : ℕ) → i < length quorums → (place : ℕ) × (place < length cycle) × (slice_index cycle place ≡ slice_index quorums i)

-- some quorum of the cycle is of this kind
abbrev pub HasOne : (ℕ → Type 0) → List ℕ → Type 0
HasOne Kind cycle = (place : ℕ) × (place < length cycle) × Kind (slice_index cycle place)

-- each one is
abbrev pub AllAre : (ℕ → Type 0) → List ℕ → Type 0
AllAre Kind cycle = (place : ℕ) → place < length cycle → Kind (slice_index cycle place)

-- the session asks a quorum of the cycle, and that is of this kind
pub record Asks (Kind : ℕ → Type 0) (cycle : List ℕ) (next : Option ℕ) : Type 0 where
  pub place : ℕ
  pub is_asked : next ≡ Some place
  pub is_in_cycle : place < length cycle
  pub is_so : Kind (slice_index cycle place)

-- So many tickets are passed over, from this one on, and each of them has a quorum of this kind. The next one has the quorum at this place.
pub record PassesOver (Kind : ℕ → Type 0) (cycle : List ℕ) (ticket place : ℕ) : Type 0 where
  pub tickets : ℕ
  pub is_once : tickets < length cycle
  pub is_at : place ≡ place_of cycle (ticket + tickets)
  pub each : (i : ℕ) → i < tickets → Kind (quorum_of cycle (ticket + i))

-- the quorum at a place, and the empty one if there is no place
abbrev pub quorum_at : List ℕ → Option ℕ → ℕ
quorum_at cycle None = 0
quorum_at cycle (Some place) = slice_index cycle place

-- the quorums that are asked with n tickets in a row, from the first one on
abbrev pub asked_in_turn : List ℕ → ℕ → ℕ → ℕ → ℕ → List ℕ
asked_in_turn cycle avoided full first n =
    map (λ ticket. quorum_at cycle (next_quorum cycle ticket avoided full)) (range_with_len first n)

-- ---- requests that wait

-- the request waits for the vote of this voter
abbrev pub WaitsFor : Waiting → ℕ → Type 0
WaitsFor w v = IsIn w.quorum v × IsNotIn w.votes v

-- The quorum has no voter that is avoided, and none that has no room. So it has none of the avoided voters for which the request waits.
abbrev pub SparesThem : Waiting → ℕ → ℕ → ℕ → Type 0
SparesThem w avoided full quorum = WouldDo avoided full quorum × ((v : ℕ) → WaitsFor w v → IsIn avoided v → IsNotIn quorum v)

-- the request has the votes of all voters of its quorum that are avoided
abbrev pub HasVotesOf : Waiting → ℕ → Type 0
HasVotesOf w avoided = (v : ℕ) → IsIn w.quorum v → IsIn avoided v → IsIn w.votes v
