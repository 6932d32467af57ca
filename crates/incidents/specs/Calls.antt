-- What the calls of a world with incidents do, and why one is refused.
use Rattle.std.specs.Prelude.{ℕ, ◌≡◌, ◌<◌, ◌≤◌, false, length, Option, None, Some, Result, Ok, Err}
use Rattle.message.specs.declared.message.ToVoter.{ToVoter}
use Rattle.voter.specs.declared.state.Grant.{Grant}
use Rattle.voter.specs.declared.fault.VoterFault.TheVariants.{GrantsSpent}
use Rattle.voter.specs.Leases.{release_of}
use Rattle.world_state.specs.declared.fault.WorldFault.{WorldFault}
use Rattle.world_state.specs.declared.fault.WorldFault.TheVariants.{NoSuchClient, NoSuchVoter, OutOfMemory, Voter}
use Rattle.world_state.specs.declared.step.Stepped.{Stepped}
use Rattle.world.specs.Restarts.{OneVoter, Saved, save_and_send}
use Rattle.world.specs.SavedWorlds.{IsSavedWorld, PlannedSaved}
use Rattle.world_state.specs.Steps.{Refuses, client_at, dealing_of, outcome_of, vote, voter_at}
use Rattle.world.specs.Incidents.{Incident, befalls, is_above, is_ahead}
use Rattle.incidents.specs.declared.fault.IncidentFault.{IncidentFault}
use Rattle.incidents.specs.declared.fault.IncidentFault.TheVariants.{NoGrant, GrantsForgotten, StampsForgotten, World}

-- the world after an incident
abbrev pub befalls_by : PlannedSaved → Incident → PlannedSaved
befalls_by w i = record w { saved = befalls (dealing_of w.plans) w.saved i }

-- Whichever clients and voters of the world are as they were saved, steps alone led to such a world. It is
-- so as long as nothing but steps, saves and restarts befalls.
abbrev pub IsCalm : PlannedSaved → Type 0
IsCalm w = IsSavedWorld w

-- the grant that a voter has given, if it has given one
abbrev pub grant_at : Saved → ℕ → Option Grant
grant_at s v = (voter_at s.live.voters v).held

-- the message by which the voter lets a grant go
abbrev pub letting_go : Saved → ℕ → Grant → ToVoter
letting_go s v g = release_of (voter_at s.live.voters v) g

-- A voter takes a message, and is saved unless that was silent; or the code returns a fault that refuses
-- the message, with nothing changed.
abbrev pub Takes : Saved → ToVoter → Result Stepped WorldFault → Saved → Type 0
Takes old m (Ok s) new =
    (vote old.live m ≡ Ok (outcome_of s new.live)) × (new ≡ save_and_send old (OneVoter m.voter) (vote old.live m))
Takes old m (Err fault) new = Refuses (vote old.live m) fault × (new ≡ old)

-- Why calls are refused

-- there is no such client, or memory ran out
abbrev pub RefusesClient : Saved → ℕ → WorldFault → Type 0
RefusesClient s c (NoSuchClient n) = (n ≡ c) × (length s.live.clients ≤ c)
RefusesClient s c OutOfMemory = c < length s.live.clients
RefusesClient s c fault = ⊥

-- there is no such voter
abbrev pub RefusesVoter : Saved → ℕ → WorldFault → Type 0
RefusesVoter s v (NoSuchVoter n) = (n ≡ v) × (length s.live.voters ≤ v)
RefusesVoter s v fault = ⊥

-- the voter has a grant, but can't let it go: another request waits and no grant is left, or memory ran out
abbrev pub KeepsGrant : Saved → ℕ → WorldFault → Type 0
KeepsGrant s v (NoSuchVoter n) = (n ≡ v) × (length s.live.voters ≤ v)
KeepsGrant s v (Voter GrantsSpent) = (g : Grant) × (v < length s.live.voters) × (grant_at s v ≡ Some g)
    × (vote s.live (letting_go s v g) ≡ Err (Voter GrantsSpent))
KeepsGrant s v OutOfMemory = (g : Grant) × (v < length s.live.voters) × (grant_at s v ≡ Some g)
KeepsGrant s v fault = ⊥

-- Why no grant is let go: there is no such voter, it has given none, or it keeps it.
abbrev pub RefusesEviction : Saved → ℕ → IncidentFault → Type 0
RefusesEviction s v (World fault) = KeepsGrant s v fault
RefusesEviction s v (NoGrant n) = (n ≡ v) × (v < length s.live.voters) × (grant_at s v ≡ None)
RefusesEviction s v fault = ⊥

-- Why a voter is not reborn: there is no such voter, or the number is smaller than that of a grant that it
-- gave, or greater than its limit.
abbrev pub RefusesRebirth : Saved → ℕ → ℕ → IncidentFault → Type 0
RefusesRebirth s v above (World fault) = RefusesVoter s v fault
RefusesRebirth s v above (GrantsForgotten n) =
    (n ≡ v) × (v < length s.live.voters) × (is_above (voter_at s.live.voters v) above ≡ false)
RefusesRebirth s v above fault = ⊥

-- Why a client does not start anew: there is no such client, the clock is behind a stamp that it used or
-- above its limit, or memory ran out.
abbrev pub RefusesAnew : Saved → ℕ → ℕ → IncidentFault → Type 0
RefusesAnew s c clock (World fault) = RefusesClient s c fault
RefusesAnew s c clock (StampsForgotten n) =
    (n ≡ c) × (c < length s.live.clients) × (is_ahead (client_at s.live.clients c) clock ≡ false)
RefusesAnew s c clock fault = ⊥
