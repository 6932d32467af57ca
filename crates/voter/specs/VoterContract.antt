-- The contract of a voter: all that proofs about many voters and clients need to know of its steps.
use Rattle.std.specs.Prelude.{ℕ, ◌≡◌, ◌<◌, ◌≤◌, List, Option, Some, ◌⊎◌}
use Rattle.std.specs.List.{AllByRecursion}
use Rattle.std.specs.FinMap.{get}
use Rattle.message.specs.declared.message.ToVoter.{ToVoter}
use Rattle.message.specs.declared.message.ToClient.{ToClient}
use Rattle.message.specs.declared.message.VoterBody.{VoterBody}
use Rattle.message.specs.declared.message.VoterBody.TheVariants as asks
use Rattle.message.specs.declared.message.ClientBody.{ClientBody}
use Rattle.message.specs.declared.message.ClientBody.TheVariants as to_client
use Rattle.voter.specs.declared.state.Grant.{Grant}
use Rattle.voter.specs.declared.state.VoterState.{VoterState}
use Rattle.voter.specs.Steps.{Outcome}

-- a LOCKED to this client carries the current grant
abbrev pub ReportsVote : Option Grant → ℕ → ClientBody → Type 0
ReportsVote held client (to_client.Locked stamp grant) =
    held ≡ Some (record { client = client; stamp = stamp; grant = grant })
ReportsVote held client (to_client.Fail stamp) = Unit {0}
ReportsVote held client (to_client.Inquire grant) = Unit {0}

-- each LOCKED among these replies carries the current grant
abbrev pub AllReport : Option Grant → List ToClient → Type 0
AllReport held replies = AllByRecursion (λ r. ReportsVote held r.client r.body) replies

-- The message ends the grant. It comes from the grant's client: a REQUEST with a greater stamp, a
-- RELEASE with a stamp at least as great, or a RELINQUISH with the grant's number.
abbrev pub Ends : ℕ → VoterBody → Grant → Type 0
Ends client (asks.Request stamp) g = (g.client ≡ client) × (g.stamp < stamp)
Ends client (asks.Relinquish grant) g = (g.client ≡ client) × (g.grant ≡ grant)
Ends client (asks.Release stamp) g = (g.client ≡ client) × (g.stamp ≤ stamp)

-- this request of a client holds the vote, or waits
abbrev pub IsEntry : VoterState → ℕ → ℕ → Type 0
IsEntry v client stamp =
    ((g : Grant) × (v.held ≡ Some g) × (g.client ≡ client) × (g.stamp ≡ stamp)) ⊎ (get v.waiting client ≡ Some stamp)

-- the message is this request
abbrev pub Brings : ℕ → VoterBody → ℕ → ℕ → Type 0
Brings client (asks.Request stamp) c s = (c ≡ client) × (s ≡ stamp)
Brings client (asks.Relinquish grant) c s = ⊥
Brings client (asks.Release stamp) c s = ⊥

-- what the world needs to know of a step of a voter
pub record MeetsContract (v : VoterState) (m : ToVoter) (o : Outcome) : Type 0 where
  -- a grant stays, or the message ends it
  pub kept : (g : Grant) → v.held ≡ Some g → (o.state.held ≡ Some g) ⊎ Ends m.client m.body g
  -- each request that holds the vote or waits did so before, or is the message
  pub entries : (client stamp : ℕ) → IsEntry o.state client stamp
      → IsEntry v client stamp ⊎ Brings m.client m.body client stamp
  -- each LOCKED carries the vote as it is after the step
  pub heard : AllReport o.state.held o.replies
