-- Runs: what a list of steps makes of a new world. A refused step changes nothing.
use Rattle.std.specs.Prelude.{ℕ, ◌≡◌, ◌+◌, ◌≤◌, List, [], ◌∷◌, ◌++◌, length, map, Result, Ok, Err}
use Rattle.std.specs.List.{range_with_len}
use Rattle.numbers.specs.Bounds.{max_voters, max_clients, max_limit}
use Rattle.quorum_set.specs.declared.bridge.Side.TheVariants.{First}
use Rattle.dealer.specs.Plans.{PlanPair, ArePlans}
use Rattle.voter.specs.Steps as voter
use Rattle.requester.specs.Steps as client
use Rattle.world_state.specs.declared.fault.WorldFault.{WorldFault}
use Rattle.world_state.specs.declared.step.Step.{Step}
use Rattle.world_state.specs.Steps.{WorldState, Outcome, Dealing, Planned, dealing_of, step}

-- a world of new voters and clients, in which nothing has happened yet
abbrev pub start : ℕ → ℕ → ℕ → WorldState
start voters clients limit = record {
  clients = map (λ c. client.start c limit) (range_with_len 0 clients);
  voters = map (λ v. voter.start v limit) (range_with_len 0 voters);
  sent = [];
  draws = [];
  draws2 = [];
  side = First;
  visible = [];
}

-- the world after a step; a refused step changes nothing
abbrev pub after : WorldState → Result Outcome WorldFault → WorldState
after w (Ok o) = o.state
after w (Err fault) = w

-- the world after these steps
abbrev pub run_of : Dealing → List Step → WorldState → WorldState
run_of deal [] w = w
run_of deal (s ∷ steps) w = run_of deal steps (after w (step deal w s))

-- the fault of the step at this place, if the step is refused
abbrev pub refusal_at : ℕ → Result Outcome WorldFault → List (ℕ × WorldFault)
refusal_at place (Ok o) = []
refusal_at place (Err fault) = (place, fault) ∷ []

-- the refused steps of a run, each with its place and its fault; places count from this one on
abbrev pub refusals_of : Dealing → ℕ → List Step → WorldState → List (ℕ × WorldFault)
refusals_of deal place [] w = []
refusals_of deal place (s ∷ steps) w =
    refusal_at place (step deal w s) ++ refusals_of deal (place + 1) steps (after w (step deal w s))

-- the new world of these plans
abbrev pub start_by : PlanPair → ℕ → ℕ → WorldState
start_by plans clients limit = start plans.first.system.voters clients limit

-- the world of these plans after these steps
abbrev pub run_by : PlanPair → ℕ → ℕ → List Step → WorldState
run_by plans clients limit steps = run_of (dealing_of plans) steps (start_by plans clients limit)

-- at most 64 voters and 64 clients, and a limit of stamps and grants from 1 to 2^62
pub record AreLimits (voters clients limit : ℕ) : Type 0 where
  pub few_voters : voters ≤ max_voters
  pub few_clients : clients ≤ max_clients
  pub some_stamp : 1 ≤ limit
  pub few_stamps : limit ≤ max_limit

-- some list of steps made this world from a new one
pub record IsReached (w : Planned) : Type 0 where
  pub plans : ArePlans w.plans
  pub clients : ℕ
  pub limit : ℕ
  pub limits : AreLimits w.plans.first.system.voters clients limit
  pub steps : List Step
  pub state : w.state ≡ run_by w.plans clients limit steps

-- the drawn tickets are 0, 1, 2, .. in order
abbrev pub DrawsInOrder : List (ℕ × ℕ) → Type 0
DrawsInOrder draws = map (λ d. d.1) draws ≡ range_with_len 0 (length draws)
