-- what the laws rest on: what holds of a world, and of each that steps lead to from there
use Rattle.std.proofs.Common.{ℕ, List, [], ◌∷◌, refl, sym, subst}
use Rattle.world.specs.Coherence.{IsCoherent}
use Rattle.world_state.specs.declared.step.Step.{Step}
use Rattle.world.specs.Runs.{IsReached, after, run_of, start, start_by}
use Rattle.world_state.specs.Steps.{Dealing, Planned, WorldState, dealing_of, step}
use Rattle.progress.specs.Rules.{Laws}
use Rattle.progress.proofs.invariants.Always.{Always, Always-start}
use Rattle.progress.proofs.invariants.Fitting.{ClientsFit, Fits-moved, Fits-start}
use Rattle.progress.proofs.run.Moves.{IsReached-run, Moved, StaysCoherent, kept-by, with_state}
use Rattle.progress.proofs.invariants.Placed.{Always-moved, Placed, Placed-moved, Placed-start}

-- what the steps keep, beside what `world` says of coherent worlds
pub record StepsKeep (u : WorldState) : Type 0 where
  pub always : Always u
  pub fits : ClientsFit u.clients u.voters
  pub placed : Placed u.clients u.voters u.sent

-- a coherent world, and what the steps keep beside
pub record Stands (u : WorldState) : Type 0 where
  pub coherent : IsCoherent u
  pub always : Always u
  pub fits : ClientsFit u.clients u.voters
  pub placed : Placed u.clients u.voters u.sent

-- all of this holds of the world, and stays so by any steps
abbrev pub WorldIsKept : Dealing → WorldState → Type 0
WorldIsKept deal u = (steps : List Step) → Stands (run_of deal steps u)

pub IsKept-after : (deal : Dealing) (u : WorldState) → WorldIsKept deal u → (s : Step) → WorldIsKept deal (after u (step deal u s))
IsKept-after deal u r s = λ steps. r (s ∷ steps)

pub IsKept-run : (deal : Dealing) (steps : List Step) (u : WorldState) → WorldIsKept deal u → WorldIsKept deal (run_of deal steps u)
IsKept-run deal [] u r = r
IsKept-run deal (s ∷ steps) u r = IsKept-run deal steps (after u (step deal u s)) (IsKept-after deal u r s)

Keeps-moved : (laws : Laws) (u x : WorldState) → IsCoherent u → IsCoherent x → Moved u x → StepsKeep u → StepsKeep x
Keeps-moved laws u x ok now moved k = record {
  always = Always-moved laws u x ok now moved k.always;
  fits = Fits-moved laws u x ok now moved k.fits;
  placed = Placed-moved laws u x ok now moved k.placed;
}

-- it is enough that the world stays coherent, and that the rest holds of it now
pub IsKept-first : (laws : Laws) (deal : Dealing) (u : WorldState) → StaysCoherent deal u → StepsKeep u → WorldIsKept deal u
IsKept-first laws deal u coherent first = λ steps.
    let k = kept-by StepsKeep (Keeps-moved laws) deal steps u coherent first in
    record { coherent = coherent steps; always = k.always; fits = k.fits; placed = k.placed }

-- ---- worlds that are reached

Keeps-start : (laws : Laws) (voters clients limit : ℕ) → StepsKeep (start voters clients limit)
Keeps-start laws voters clients limit = record {
  always = Always-start voters clients limit;
  fits = Fits-start voters clients limit;
  placed = Placed-start laws voters clients limit;
}

pub IsKept-reached : (laws : Laws) (w : Planned) → IsReached w → WorldIsKept (dealing_of w.plans) w.state
IsKept-reached laws w r =
    let deal = dealing_of w.plans in
    let first = start_by w.plans r.clients r.limit in
    let begin : IsReached (with_state w first) = record { plans = r.plans; clients = r.clients; limit = r.limit; limits = r.limits; steps = []; state = refl } in
    subst (WorldIsKept deal) (sym r.state) (IsKept-run deal r.steps first (IsKept-first laws deal first
    (λ steps. laws.coherent (with_state w (run_of deal steps first)) (IsReached-run steps (with_state w first) begin))
    (Keeps-start laws w.plans.first.system.voters r.clients r.limit)))
