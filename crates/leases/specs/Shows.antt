-- Clients that show their passes to a guard: late, again, and in any order.
use Rattle.std.specs.Prelude.{ℕ, ◌≡◌, ◌<◌, ◌≤◌, ◌⊎◌, List, Some, slice_index, take}
use Rattle.numbers.specs.Bounds.{max_voters}
use Rattle.passes.specs.Grants.{Pass}
use Rattle.voter.specs.declared.state.Grant.{Grant}
use Rattle.world.specs.Restarts.{IsIn, Saved, begin, pass_of, stamp_of}
use Rattle.world_state.specs.Steps.{Dealing, voter_at}
use Rattle.world.specs.Incidents.{Incident, all_befall}

-- A client that shows the pass that it had at a moment: after this number of the incidents. It may show
-- it at any time, and again.
pub record ClientShow : Type 0 where
  pub client : ℕ
  pub moment : ℕ

-- incidents, the world that they begin with, and the quorum of each ticket
pub record Story : Type 0 where
  pub deal : Dealing
  pub first : Saved
  pub incidents : List Incident

-- these incidents, from a new world with these numbers of voters and clients, and this limit
abbrev pub story_of : Dealing → (voters clients limit : ℕ) → List Incident → Story
story_of deal voters clients limit incidents = record { deal = deal; first = begin voters clients limit; incidents = incidents }

-- the world after this number of the incidents
abbrev pub world_at : Story → ℕ → Saved
world_at story moment = all_befall story.deal (take moment story.incidents) story.first

-- the pass that is shown
abbrev pub pass_in : Story → ClientShow → List ℕ
pass_in story w = pass_of (world_at story w.moment) w.client

-- the client was inside at that moment
abbrev pub WasIn : Story → ClientShow → Type 0
WasIn story w = IsIn (world_at story w.moment) w.client

-- whose request it is, and the grants
abbrev pub shown : Story → ClientShow → Pass
shown story w = record { client = w.client; stamp = stamp_of (world_at story w.moment) w.client; grants = pass_in story w }

-- some client that was inside at some moment has this pass
abbrev pub IsShown : Story → Pass → Type 0
IsShown story p = (w : ClientShow) × WasIn story w × (shown story w ≡ p)

-- each number that a guard saw is 0, or some client held that grant at some moment of the story
abbrev pub HasSeenOnly : Story → List ℕ → Type 0
HasSeenOnly story seen = (v : ℕ) → v < max_voters
    → (slice_index seen v ≡ 0) ⊎ ((w : ClientShow) × (slice_index seen v ≡ slice_index (pass_in story w) v))

-- each grant that is shown has the number of its voter's current one
abbrev pub IsCurrent : Saved → List ℕ → Type 0
IsCurrent s pass = (v : ℕ) → 1 ≤ slice_index pass v → (g : Grant) × ((voter_at s.live.voters v).held ≡ Some g) × (g.grant ≡ slice_index pass v)
