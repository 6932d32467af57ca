-- what the laws on rounds rest on: what holds of a world, and of each that steps lead to from there
use Rattle.std.proofs.Common.{◌≡◌, ℕ, ◌<◌, true, List, [], ◌∷◌, length, refl, sym, subst, Bool, false, ◌∙◌}
use Rattle.world.specs.Coherence.{IsCoherent}
use Rattle.world_state.specs.declared.step.Step.{Step}
use Rattle.world.specs.Runs.{IsReached, after, run_of, start_by}
use Rattle.world_state.specs.Steps.{Dealing, Planned, WorldState, dealing_of, step, voter_at, client_at}
use Rattle.progress.specs.LiveRounds.{HasGrantsThere, Live}
use Rattle.progress.specs.Rules.{Laws}
use Rattle.progress.proofs.invariants.Fitting.{ClientsFit, Fits-moved, Fits-start}
use Rattle.progress.proofs.invariants.Kept.{IsKept-reached}
use Rattle.progress.proofs.run.Moves.{Moved, StaysCoherent, kept-by, with_state}
use Rattle.progress.proofs.invariants.Outstanding.{Outstanding, Outstanding-moved, Outstanding-start}
use Rattle.progress.proofs.invariants.Placed.{Placed, Placed-moved, Placed-start}
use Rattle.std.proofs.lemmas.Bool.{false≢true}
use Rattle.requester.specs.Words.{is_idle}

-- How quorums are dealt, and for each voter a number below which its grants are old. Of an old
-- grant it is not known whether its voter remembers that it asked for it. And who is live.
pub record Course : Type 0 where
  pub deal : Dealing
  pub old : ℕ → ℕ
  pub live : Live

-- who is not live is idle in the world x, and has not asked anew in the world z: it has the same stamp there
abbrev pub AreOut : Live → WorldState → WorldState → Type 0
AreOut live x z = (c : ℕ) → live.client c ≡ false → (is_idle (client_at x.clients c).phase ≡ true) × ((client_at z.clients c).stamp ≡ (client_at x.clients c).stamp)

-- each live voter has a grant left, and who is not live is idle
pub record LiveServe (p : Course) (x : WorldState) : Type 0 where
  pub grants : (v : ℕ) → v < length x.voters → p.live.voter v ≡ true → (voter_at x.voters v).granted < (voter_at x.voters v).limit
  pub out : (d : ℕ) → p.live.client d ≡ false → is_idle (client_at x.clients d).phase ≡ true

-- each live voter has a grant left in the world z, and who is not live is idle from the world x to there
pub record Serving (p : Course) (x z : WorldState) : Type 0 where
  pub grants : HasGrantsThere p.live 1 z
  pub out : AreOut p.live x z

-- who is not idle is live
pub live_by : (p : Course) (x : WorldState) (d : ℕ) → LiveServe p x → is_idle (client_at x.clients d).phase ≡ false → p.live.client d ≡ true
live_by p x d serves busy = by (p.live.client d) refl
  where
    by : (b : Bool) → p.live.client d ≡ b → p.live.client d ≡ true
    by true is = is
    by false dead = absurd (false≢true (sym busy ∙ serves.out d dead))

-- what each step keeps
pub record Bears (p : Course) (u : WorldState) : Type 0 where
  pub fits : ClientsFit u.clients u.voters
  pub placed : Placed u.clients u.voters u.sent
  pub out : Outstanding p.old u

pub record Sure (p : Course) (u : WorldState) : Type 0 where
  pub coherent : IsCoherent u
  pub fits : ClientsFit u.clients u.voters
  pub placed : Placed u.clients u.voters u.sent
  pub out : Outstanding p.old u

-- all of this holds of the world, and stays so by any steps
abbrev pub IsSure : Course → WorldState → Type 0
IsSure p u = (steps : List Step) → Sure p (run_of p.deal steps u)

pub IsSure-after : (p : Course) (u : WorldState) → IsSure p u → (s : Step) → IsSure p (after u (step p.deal u s))
IsSure-after p u r s = λ steps. r (s ∷ steps)

pub IsSure-run : (p : Course) (steps : List Step) (u : WorldState) → IsSure p u → IsSure p (run_of p.deal steps u)
IsSure-run p [] u r = r
IsSure-run p (s ∷ steps) u r = IsSure-run p steps (after u (step p.deal u s)) (IsSure-after p u r s)

pub Bears-moved : (laws : Laws) (p : Course) (u x : WorldState) → IsCoherent u → IsCoherent x → Moved u x → Bears p u → Bears p x
Bears-moved laws p u x ok now moved k = record {
  fits = Fits-moved laws u x ok now moved k.fits;
  placed = Placed-moved laws u x ok now moved k.placed;
  out = Outstanding-moved laws p.old u x ok now moved k.out;
}

-- it is enough that the world stays coherent, and that the rest holds of it now
pub IsSure-first : (laws : Laws) (p : Course) (u : WorldState) → StaysCoherent p.deal u → Bears p u → IsSure p u
IsSure-first laws p u coherent first = λ steps.
    let k = kept-by (Bears p) (Bears-moved laws p) p.deal steps u coherent first in
    record { coherent = coherent steps; fits = k.fits; placed = k.placed; out = k.out }

pub stays_coherent : (p : Course) (u : WorldState) → IsSure p u → StaysCoherent p.deal u
stays_coherent p u r = λ steps. (r steps).coherent

-- ---- worlds that are reached

-- no grant is old
abbrev pub course_of : Live → Planned → Course
course_of live w = record { deal = dealing_of w.plans; old = λ v. 0; live = live }

pub IsSure-reached : (laws : Laws) (live : Live) (w : Planned) → IsReached w → IsSure (course_of live w) w.state
IsSure-reached laws live w r =
    let p = course_of live w in
    let first = start_by w.plans r.clients r.limit in
    let begin : IsReached (with_state w first) = record { plans = r.plans; clients = r.clients; limit = r.limit; limits = r.limits; steps = []; state = refl } in
    let kept = IsKept-reached laws (with_state w first) begin in
    let n = w.plans.first.system.voters in
    subst (IsSure p) (sym r.state) (IsSure-run p r.steps first (IsSure-first laws p first (λ steps. (kept steps).coherent) (record {
      fits = Fits-start n r.clients r.limit;
      placed = Placed-start laws n r.clients r.limit;
      out = Outstanding-start p.old n r.clients r.limit;
    })))
