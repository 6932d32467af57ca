-- What a world whose clients and voters are saved keeps: whichever of them are as they were saved, steps
-- alone led to such a world. So a restart takes back silent steps, of which nobody else knows.
use Rattle.std.specs.Prelude.{ℕ, ◌≡◌, ◌⊎◌, List, [], ◌∷◌, length, Result, Ok, Err}
use Rattle.dealer.specs.Plans.{PlanPair, ArePlans}
use Rattle.voter.specs.declared.state.VoterState.{VoterState}
use Rattle.requester.specs.declared.state.ClientState.{ClientState}
use Rattle.world_state.specs.declared.fault.WorldFault.{WorldFault}
use Rattle.world_state.specs.declared.step.Step.{Step}
use Rattle.world_state.specs.declared.step.Stepped.{Stepped}
use Rattle.world.specs.Restarts.{Happening, Goes, Saves, Forgets, Restarts, Saved, begin, happens}
use Rattle.world.specs.Runs.{AreLimits, run_of, start_by}
use Rattle.world_state.specs.Steps.{Dealing, Outcome, Planned, Refuses, WorldState, client_at, dealing_of, outcome_of, step, voter_at}

-- a world with saved states and its plans, which give the quorum of each ticket
pub record PlannedSaved : Type 0 where
  pub plans : PlanPair
  pub saved : Saved

-- the new world of these plans
abbrev pub begin_by : PlanPair → ℕ → ℕ → Saved
begin_by plans clients limit = begin plans.first.system.voters clients limit

-- the world after one of these happens
abbrev pub happens_by : PlannedSaved → Happening → PlannedSaved
happens_by w h = record w { saved = happens (dealing_of w.plans) w.saved h }

-- one step of the live world
abbrev pub live_step_of : PlannedSaved → Step → Result Outcome WorldFault
live_step_of w s = step (dealing_of w.plans) w.saved.live s

-- The code makes a step of the live world, and then saves; or it returns a fault that refuses the step,
-- with nothing changed.
abbrev pub SavesAndSends : Dealing → Saved → Step → Result Stepped WorldFault → Saved → Type 0
SavesAndSends deal old st (Ok s) new = (step deal old.live st ≡ Ok (outcome_of s new.live)) × (new ≡ happens deal old (Goes st))
SavesAndSends deal old st (Err fault) new = Refuses (step deal old.live st) fault × (new ≡ old)

-- the live world
abbrev pub live_of : PlannedSaved → Planned
live_of w = record { plans = w.plans; state = w.saved.live }

-- Mixes

-- the same world with these clients and voters
abbrev pub with_nodes : WorldState → List ClientState → List VoterState → WorldState
with_nodes w clients voters = record w { clients = clients; voters = voters }

-- at each number one of the two
abbrev pub IsMix : {A : Type 0} → (ℕ → A) → (ℕ → A) → (ℕ → A) → Type 0
IsMix live saved mix = (n : ℕ) → (mix n ≡ live n) ⊎ (mix n ≡ saved n)

-- each of these clients and voters is as it is, or as it was saved
pub record AreMixed (s : Saved) (clients : List ClientState) (voters : List VoterState) : Type 0 where
  pub many_clients : length clients ≡ length s.live.clients
  pub many_voters : length voters ≡ length s.live.voters
  pub each_client : IsMix (client_at s.live.clients) (client_at s.clients) (client_at clients)
  pub each_voter : IsMix (voter_at s.live.voters) (voter_at s.voters) (voter_at voters)

-- steps alone led to this world
abbrev pub IsLed : Dealing → WorldState → WorldState → Type 0
IsLed deal first w = (steps : List Step) × (w ≡ run_of deal steps first)

-- All clients and voters are saved. Whichever of them are as they were saved, steps alone led to such a
-- world.
pub record EachMixIsLed (deal : Dealing) (first : WorldState) (s : Saved) : Type 0 where
  pub clients : length s.clients ≡ length s.live.clients
  pub voters : length s.voters ≡ length s.live.voters
  pub mixes : (cs : List ClientState) (vs : List VoterState) → AreMixed s cs vs → IsLed deal first (with_nodes s.live cs vs)

-- what a saved world keeps
pub record IsSavedWorld (w : PlannedSaved) : Type 0 where
  pub plans : ArePlans w.plans
  pub clients : ℕ
  pub limit : ℕ
  pub limits : AreLimits w.plans.first.system.voters clients limit
  pub led : EachMixIsLed (dealing_of w.plans) (start_by w.plans clients limit) w.saved

-- no saved state is lost
abbrev pub LosesNothing : Happening → Type 0
LosesNothing (Goes st) = Unit {0}
LosesNothing (Saves who) = Unit {0}
LosesNothing (Forgets who) = ⊥
LosesNothing (Restarts who) = Unit {0}

-- none of these loses a saved state
abbrev pub LoseNothing : List Happening → Type 0
LoseNothing [] = Unit {0}
LoseNothing (h ∷ hs) = LosesNothing h × LoseNothing hs
