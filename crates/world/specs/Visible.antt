-- What can be seen of a run: who enters and who leaves.
use Rattle.std.specs.Prelude.{ℕ, ◌≡◌, ◌==◌, ◌<◌, ◌≤◌, ◌&&◌, true, false, List, [], ◌∷◌, length, Option, Some, None, slice_index_or}
use Rattle.std.specs.List.{All, count_by}
use Rattle.numbers.specs.Sets.{IsSet}
use Rattle.quorum_set.specs.Meetings.{AllMeet}
use Rattle.quorum_set.specs.declared.bridge.Side.{Side}
use Rattle.world_state.specs.declared.step.Event.{Event}
use Rattle.world_state.specs.Steps.{Dealing, quorum_dealt}

-- these events may follow while this client, or nobody, is inside
abbrev pub GoesOn : Option ℕ → List Event → Type 0
GoesOn inside [] = Unit {0}
GoesOn None (e ∷ es) = (e.entered ≡ true) × GoesOn (Some e.client) es
GoesOn (Some c) (e ∷ es) = (e.entered ≡ false) × (e.client ≡ c) × GoesOn None es

-- one client at a time: enter c, leave c, enter d, leave d, .., perhaps without the last leave
abbrev pub IsExclusive : List Event → Type 0
IsExclusive events = GoesOn None events

-- how often this client enters
abbrev pub entries_of : ℕ → List Event → ℕ
entries_of c es = count_by (λ e. (e.client == c) && e.entered) es

-- Quorums over these voters. Any two of them have a common member, and each has one with itself.
-- One quorum may lie within another.
pub record DoMeet (voters : ℕ) (quorums : List (List ℕ)) : Type 0 where
  pub sets : All IsSet quorums
  pub in_range : All (λ q. All (λ v. v < voters) q) quorums
  pub meets : AllMeet voters quorums

-- Quorums over these voters: each is a set with a member. Two of them need not have a common one.
pub record AreQuorums (voters : ℕ) (quorums : List (List ℕ)) : Type 0 where
  pub sets : All IsSet quorums
  pub in_range : All (λ q. All (λ v. v < voters) q) quorums
  pub some : All (λ q. 1 ≤ length q) quorums

-- the list is one of these quorums
abbrev pub IsAmong : List (List ℕ) → List ℕ → Type 0
IsAmong quorums q = (j : ℕ) × (j < length quorums) × (q ≡ slice_index_or quorums j [])

-- each ticket of each plan stands for one of the quorums
abbrev pub DealsFrom : List (List ℕ) → Dealing → Type 0
DealsFrom quorums deal = (side : Side) (ticket : ℕ) → IsAmong quorums (quorum_dealt deal side ticket)
