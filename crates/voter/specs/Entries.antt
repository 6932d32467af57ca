-- How requests stay at a voter, and which of them gets the vote: what proofs of progress need to know
-- of a step.
use Rattle.std.specs.Prelude.{ℕ, ◌≡◌, ◌<◌, ◌≤◌, ◌⊎◌, true, Some, slice_index}
use Rattle.std.specs.FinMap.{get}
use Rattle.message.specs.declared.message.VoterBody.{VoterBody}
use Rattle.message.specs.declared.message.VoterBody.TheVariants as asks
use Rattle.message.specs.declared.request.Request.{Request}
use Rattle.voter.specs.declared.state.Grant.{Grant}
use Rattle.voter.specs.declared.state.VoterState.{VoterState}
use Rattle.message.specs.Requests.{precedes}
use Rattle.voter.specs.VoterContract.{IsEntry}

-- the request that has this grant
abbrev pub request_of : Grant → Request
request_of g = record { stamp = g.stamp; client = g.client }

-- This message of the first client finishes the second client's request of this stamp: both are one
-- client, and the message is a REQUEST with a greater stamp or a RELEASE with a stamp at least as
-- great.
abbrev pub Finishes : ℕ → VoterBody → ℕ → ℕ → Type 0
Finishes client (asks.Request stamp) c s = (c ≡ client) × (s < stamp)
Finishes client (asks.Relinquish grant) c s = ⊥
Finishes client (asks.Release stamp) c s = (c ≡ client) × (s ≤ stamp)

-- if a waiting request precedes the one that has the vote, an INQUIRE is outstanding
abbrev pub AsksBack : VoterState → Type 0
AsksBack v = (g : Grant) (client stamp : ℕ) → v.held ≡ Some g → get v.waiting client ≡ Some stamp
    → precedes (record { stamp = stamp; client = client }) (request_of g) ≡ true → v.inquiring ≡ true

-- each finished stamp is as before, or the message finishes the request of that stamp, which isn't
-- less
abbrev pub FinishesBy : VoterState → ℕ → VoterBody → VoterState → Type 0
FinishesBy v client body w =
    (c : ℕ) → (slice_index w.finished c ≡ slice_index v.finished c)
    ⊎ (Finishes client body c (slice_index w.finished c) × (slice_index v.finished c ≤ slice_index w.finished c))

-- each request of this client that has the vote or waits has at most this stamp
abbrev pub KnowsUpTo : VoterState → ℕ → ℕ → Type 0
KnowsUpTo v client stamp = (s : ℕ) → IsEntry v client s → s ≤ stamp
