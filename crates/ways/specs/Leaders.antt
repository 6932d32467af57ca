-- Who leads: the client whose request precedes those of all others that ask.
use Rattle.std.specs.Prelude.{ℕ, ◌≡◌, ◌≢◌, ◌<◌, Bool, true, false, Option, Some, None}
use Rattle.message.specs.declared.request.Request.{Request}
use Rattle.message.specs.Requests.{precedes}
use Rattle.requester.specs.Words.{is_asking, is_inside}
use Rattle.world.specs.WayIn.{Asks}
use Rattle.world_state.specs.Steps.{WorldState, client_at}

-- the request that a client of the world runs, or ran last
abbrev pub request_of : WorldState → ℕ → Request
request_of w c = record { stamp = (client_at w.clients c).stamp; client = c }

-- the client asks, and its request precedes that of each other client that asks
pub record IsLeader (w : WorldState) (c : ℕ) : Type 0 where
  pub asks : Asks w c
  pub first : (d : ℕ) → Asks w d → d ≢ c → precedes (request_of w c) (request_of w d) ≡ true

-- nobody asks
abbrev pub NobodyAsks : WorldState → Type 0
NobodyAsks w = (c : ℕ) → ¬ Asks w c

-- some client is inside
abbrev pub IsBusy : WorldState → Type 0
IsBusy w = (c : ℕ) × (is_inside (client_at w.clients c).phase ≡ true)

-- the client's request precedes that of the other one, or there is no other one
abbrev pub is_earlier : WorldState → ℕ → Option ℕ → Bool
is_earlier w c None = true
is_earlier w c (Some d) = precedes (request_of w c) (request_of w d)

-- so far, of the clients below n: the one that leads, or none if none of them asks
abbrev pub LeadsBelow : WorldState → ℕ → Option ℕ → Type 0
LeadsBelow w n None = (d : ℕ) → d < n → is_asking (client_at w.clients d).phase ≡ false
LeadsBelow w n (Some c) =
    (c < n) × (is_asking (client_at w.clients c).phase ≡ true)
    × ((d : ℕ) → d < n → is_asking (client_at w.clients d).phase ≡ true → d ≢ c → precedes (request_of w c) (request_of w d) ≡ true)
