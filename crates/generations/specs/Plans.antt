-- Plans that replace one another in a cluster, each by its number.
use Rattle.std.specs.Prelude.{ℕ, ◌+◌, ◌≤◌, List}
use Rattle.numbers.specs.Bounds.{max_voters}
use Rattle.quorum_set.specs.Bridges.{IsBridge}
use Rattle.quorum_set.specs.Coteries.{QuorumSystem}
use Rattle.quorum_set.specs.Meetings.{Meet}
use Rattle.world.specs.Visible.{IsAmong}

-- the quorums of each plan, by its number
abbrev pub Plans : Type 0
Plans = ℕ → List (List ℕ)

-- each quorum of the first list has a common voter with each quorum of the second one
abbrev pub HaveCommon : ℕ → List (List ℕ) → List (List ℕ) → Type 0
HaveCommon count firsts seconds = (q r : List ℕ) → IsAmong firsts q → IsAmong seconds r → Meet count q r

-- A succession of plans over at most 64 voters. Any two quorums of one plan have a common voter, and so have any two of a
-- plan and the next one. Plans that are further apart may have quorums without one.
pub record IsSuccession (count : ℕ) (plans : Plans) : Type 0 where
  pub few : count ≤ max_voters
  pub one : (n : ℕ) → HaveCommon count (plans n) (plans n)
  pub next : (n : ℕ) → HaveCommon count (plans n) (plans (n + 1))

-- the coterie of each plan has a bridge to that of the next one
abbrev pub AreBridged : (ℕ → QuorumSystem) → Type 0
AreBridged coteries = (n : ℕ) → IsBridge (record { first = coteries n; second = coteries (n + 1) })

-- the quorums of these coteries
abbrev pub quorums_of : (ℕ → QuorumSystem) → Plans
quorums_of coteries n = (coteries n).quorums
