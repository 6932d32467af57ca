-- What a world keeps, whatever befalls it: clients, voters and messages are numbered and in range.
use Rattle.std.specs.Prelude.{ℕ, ◌≡◌, ◌<◌, ◌≤◌, ◌^◌, true, List, length, Some}
use Rattle.std.specs.List.{AllByRecursion}
use Rattle.dealer.specs.Plans.{ArePlans}
use Rattle.message.specs.declared.message.Message.{Message}
use Rattle.message.specs.declared.message.Message.TheVariants as kinds
use Rattle.message.specs.Lines.{HasLine, voter_number}
use Rattle.voter.specs.declared.state.Grant.{Grant}
use Rattle.voter.specs.declared.state.VoterState.{VoterState}
use Rattle.voter.specs.Steps as voter
use Rattle.voter.specs.VoterContract.{IsEntry}
use Rattle.requester.specs.declared.state.ClientState.{ClientState}
use Rattle.requester.specs.Soundness as client
use Rattle.requester.specs.Words.{held_of, is_member, last_of}
use Rattle.world.specs.Ranges.{IsWithin, ReportsWithin}
use Rattle.world.specs.Restarts.{Saved}
use Rattle.world.specs.Runs.{AreLimits}
use Rattle.world.specs.SavedWorlds.{PlannedSaved}
use Rattle.world_state.specs.Steps.{client_at, voter_at}
use Rattle.world.specs.Incidents.{Incident, Happens, Hears, IsReborn, StartsAnew, HasLimit, IsRaised, IsSkipped}

-- The client knows its number and the limit of stamps. It asks voters of this world, and each grant that
-- it holds or gave back is at most the limit.
pub record IsFitClient (voters highest number : ℕ) (x : ClientState) : Type 0 where
  pub id : x.id ≡ number
  pub limit : x.limit ≡ highest
  pub sound : client.IsSound x
  pub quorum : (v : ℕ) → is_member x v ≡ true → v < voters
  pub held : (v : ℕ) → held_of x v ≤ highest
  pub last : (v : ℕ) → last_of x v ≤ highest

-- The voter knows its number. The requests that it knows are of clients of this world, and their stamps,
-- and its grant, are from 1 to the limit.
pub record IsFitVoter (clients highest number : ℕ) (y : VoterState) : Type 0 where
  pub id : y.id ≡ number
  pub limit : y.limit ≤ highest
  pub sound : voter.IsSound y
  pub requests : (c s : ℕ) → IsEntry y c s → (c < clients) × IsWithin highest s
  pub grant : (g : Grant) → y.held ≡ Some g → 1 ≤ g.grant
  pub seen : y.seen < 2 ^ 64

-- The message names a client and a voter of this world. Its stamp and its grant are from 1 to the limit.
-- The highest stamp that its voter saw may be greater: the voter may have taken a message that was made
-- up.
abbrev pub IsFitMessage : ℕ → ℕ → ℕ → Message → Type 0
IsFitMessage voters clients limit (kinds.ToVoter m) =
    (m.client < clients) × (m.voter < voters) × IsWithin limit (voter_number m.body)
IsFitMessage voters clients limit (kinds.ToClient m) =
    (m.client < clients) × (m.voter < voters) × (m.seen < 2 ^ 64) × ReportsWithin limit m.body

-- each client of a list is fit
abbrev pub AreFitClients : ℕ → ℕ → ℕ → List ClientState → Type 0
AreFitClients voters clients limit xs = (c : ℕ) → c < clients → IsFitClient voters limit c (client_at xs c)

-- each voter of a list is fit
abbrev pub AreFitVoters : ℕ → ℕ → ℕ → List VoterState → Type 0
AreFitVoters voters clients limit ys = (v : ℕ) → v < voters → IsFitVoter clients limit v (voter_at ys v)

-- This number of voters and of clients, as they are and as they are saved, and all messages that were
-- ever sent.
pub record IsFitState (voters clients limit : ℕ) (s : Saved) : Type 0 where
  pub many_clients : length s.live.clients ≡ clients
  pub many_voters : length s.live.voters ≡ voters
  pub many_saved_clients : length s.clients ≡ clients
  pub many_saved_voters : length s.voters ≡ voters
  pub clients_are : AreFitClients voters clients limit s.live.clients
  pub voters_are : AreFitVoters voters clients limit s.live.voters
  pub saved_clients_are : AreFitClients voters clients limit s.clients
  pub saved_voters_are : AreFitVoters voters clients limit s.voters
  pub messages : AllByRecursion (IsFitMessage voters clients limit) s.live.sent

-- a world of these plans, with at most 64 voters and 64 clients, and a limit of at most 2^62
pub record IsFit (w : PlannedSaved) : Type 0 where
  pub plans : ArePlans w.plans
  pub clients : ℕ
  pub limit : ℕ
  pub limits : AreLimits w.plans.first.system.voters clients limit
  pub state : IsFitState w.plans.first.system.voters clients limit w.saved

-- a message that is made up has a line: its numbers are below 2^64
abbrev pub IsWritten : Incident → Type 0
IsWritten (Happens h) = Unit {0}
IsWritten (Hears m) = HasLine (kinds.ToVoter m)
IsWritten (IsReborn v above) = Unit {0}
IsWritten (StartsAnew c clock) = Unit {0}
IsWritten (HasLimit v limit) = Unit {0}
IsWritten (IsRaised c clock) = Unit {0}
IsWritten (IsSkipped v above) = Unit {0}
