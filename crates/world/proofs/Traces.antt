-- a run, step by step
use Rattle.std.proofs.Common.{◌≡◌, ℕ, ◌+◌, ◌<◌, List, [], ◌∷◌, ◌++◌, length, drop, get_or, Result, Ok, Err, sym, ap, subst, ◌∙◌, append_assoc}
use Rattle.std.proofs.lemmas.List.{append-nil, drop_more}
use Rattle.dealer.specs.Plans.{PlanPair}
use Rattle.world_state.specs.declared.fault.WorldFault.{WorldFault}
use Rattle.world_state.specs.declared.fault.WorldFault.TheVariants as faults
use Rattle.world_state.specs.declared.step.Step.{Step}
use Rattle.world_state.specs.declared.step.Stepped.{Stepped}
use Rattle.world.specs.Runs.{after, refusal_at, refusals_of, run_by, run_of, start_by}
use Rattle.world_state.specs.Steps.{Outcome, Planned, Refuses, WorldState, dealing_of, outcome_of, step, step_of}

-- the run so far, and then that of the steps that are left, is the whole run
pub record Ran (plans : PlanPair) (clients limit : ℕ) (steps : List Step) (place : ℕ) (w : Planned) (refused : List (ℕ × WorldFault)) : Type 0 where
  pub by : w.plans ≡ plans
  pub rest : run_of (dealing_of plans) (drop place steps) w.state ≡ run_by plans clients limit steps
  pub refusals : refused ++ refusals_of (dealing_of plans) place (drop place steps) w.state ≡ refusals_of (dealing_of plans) 0 steps (start_by plans clients limit)

refused_why : (r : Result Outcome WorldFault) (fault : WorldFault) → Refuses r fault → (fault ≡ faults.OutOfMemory → ⊥) → r ≡ Err fault
refused_why (Ok o) fault refuses other = absurd (other refuses)
refused_why (Err why) fault refuses other = ap (λ e. Err e) (sym refuses)

Ran-one_step : (plans : PlanPair) (clients limit : ℕ) (steps : List Step) (place : ℕ) (w u : Planned) (refused more : List (ℕ × WorldFault)) (s : Step) → Ran plans clients limit steps place w refused
    → drop place steps ≡ s ∷ drop (place + 1) steps → u.plans ≡ w.plans → u.state ≡ after w.state (step (dealing_of plans) w.state s) → refusal_at place (step (dealing_of plans) w.state s) ≡ more
    → Ran plans clients limit steps (place + 1) u (refused ++ more)
Ran-one_step plans clients limit steps place w u refused more s ran next same is at =
    let deal = dealing_of plans in
    let left = drop (place + 1) steps in
    record {
      by = same ∙ ran.by;
      rest = ap (λ (v : WorldState). run_of deal left v) is ∙ ap (λ (l : List Step). run_of deal l w.state) (sym next) ∙ ran.rest;
      refusals =
          append_assoc refused more (refusals_of deal (place + 1) left u.state)
          ∙ ap (λ (l : List (ℕ × WorldFault)). refused ++ (l ++ refusals_of deal (place + 1) left u.state)) (sym at)
          ∙ ap (λ (v : WorldState). refused ++ (refusal_at place (step deal w.state s) ++ refusals_of deal (place + 1) left v)) is
          ∙ ap (λ (l : List Step). refused ++ refusals_of deal place l w.state) (sym next)
          ∙ ran.refusals;
    }

by_plans : (plans : PlanPair) (w : Planned) (s : Step) (r : Result Outcome WorldFault) → w.plans ≡ plans → step_of w s ≡ r → step (dealing_of plans) w.state s ≡ r
by_plans plans w s r by is = subst (λ (p : PlanPair). step (dealing_of p) w.state s ≡ r) by is

pub Ran-on : (plans : PlanPair) (clients limit : ℕ) (steps : List Step) (place : ℕ) (w u : Planned) (refused : List (ℕ × WorldFault)) (s : Step) (heard : Stepped)
    → Ran plans clients limit steps place w refused
    → place < length steps → u.plans ≡ w.plans → step_of w (get_or steps place s) ≡ Ok (outcome_of heard u.state) → Ran plans clients limit steps (place + 1) u refused
Ran-on plans clients limit steps place w u refused s heard ran within same done =
    let next = drop_more steps place s within in
    let is = by_plans plans w (get_or steps place s) _ ran.by done in
    subst (λ (l : List (ℕ × WorldFault)). Ran plans clients limit steps (place + 1) u l) (append-nil refused)
    (Ran-one_step plans clients limit steps place w u refused [] (get_or steps place s) ran next same (sym (ap (λ r. after w.state r) is)) (ap (λ r. refusal_at place r) is))

pub Ran-past : (plans : PlanPair) (clients limit : ℕ) (steps : List Step) (place : ℕ) (w u : Planned) (refused : List (ℕ × WorldFault)) (s : Step) (fault : WorldFault)
    → Ran plans clients limit steps place w refused
    → place < length steps → u ≡ w → Refuses (step_of w (get_or steps place s)) fault → (fault ≡ faults.OutOfMemory → ⊥) → Ran plans clients limit steps (place + 1) u (refused ++ (place, fault) ∷ [])
Ran-past plans clients limit steps place w u refused s fault ran within same refuses other =
    let next = drop_more steps place s within in
    let is = by_plans plans w (get_or steps place s) _ ran.by (refused_why _ fault refuses other) in
    Ran-one_step plans clients limit steps place w u refused ((place, fault) ∷ []) (get_or steps place s) ran next (ap (λ (v : Planned). v.plans) same)
    (ap (λ (v : Planned). v.state) same ∙ sym (ap (λ r. after w.state r) is)) (ap (λ r. refusal_at place r) is)
