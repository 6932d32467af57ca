-- The regret of weights is at least that of each failure.
use Rattle.std.proofs.Common.{◌≡◌, inl, inr, ℕ, ◌*◌, ◌<◌, List, [], ◌∷◌, length, get_or, zero, suc, sym, subst, arith}
use Rattle.std.specs.Prelude.{fold}
use Rattle.std.specs.List.{All, Any}
use Rattle.std.proofs.lemmas.List.Elements.{All-head, All-tail}
use Rattle.std.proofs.Math.Nat.{mul-pos}
use Rattle.divisor.specs.Gcd.{lowest_terms}
use Rattle.divisor.proofs.GcdLemmas.{lowest_terms-exact, lowest_terms-some}
use Rattle.quorum_set.specs.Capacities.{AreCapacities}
use Rattle.certificate.specs.Certificates.{Weighted, AreWeights, cycle_count, load_of}
use Rattle.certificate.specs.Bounds.{IsRival}
use Rattle.certificate.specs.Ratios.{IsAtMost, greater_of}
use Rattle.certificate.proofs.RatioLemmas.{IsAtMost-trans, greater_of-cases, greatest_ratio-some}
use Rattle.losses.specs.Losses.{load_left, ratio_left, tickets_left, weights_left}
use Rattle.losses.specs.Regrets.{IsBorne, IsRegretBound, Regrets, regret_at, regret_of}
use Rattle.losses.specs.declared.failure.Failure.{Failure}

-- a fraction that is at most another one is at most its lowest terms
IsAtMost-lowest_terms : (r : ℕ × ℕ) (a b : ℕ) → 0 < b → IsAtMost r (a, b) → IsAtMost r (lowest_terms a b)
IsAtMost-lowest_terms r a b some low =
    IsAtMost-trans r (a, b) (lowest_terms a b) some low (omega (arith, lowest_terms-exact a b))

greater_of-above : (r s : ℕ × ℕ) → 0 < r.1 → 0 < s.1 → IsAtMost r (greater_of r s) × IsAtMost s (greater_of r s) × (0 < (greater_of r s).1)
greater_of-above r s some more =
    let Holds : ℕ × ℕ → Type 0 = λ t. IsAtMost r t × IsAtMost s t × (0 < t.1) in
    elim (greater_of-cases r s) [
      | inl second ↦ subst Holds (sym second.0) (second.1, omega arith, more)
      | inr first ↦ subst Holds (sym first.0) (omega arith, first.1, some)
    ]

module _ (w : Weighted) where
  -- the load that is left has a divisor, if it is known to be above a fraction
  abbrev step : ℕ × ℕ → Failure → ℕ × ℕ
  step r f = greater_of r (regret_at w f)

  abbrev IsDivided : Failure → Type 0
  IsDivided f = (0 < (load_left f.down w).1) × IsBorne w f

  regret_at-some : (f : Failure) → IsDivided f → 0 < (regret_at w f).1
  regret_at-some f is =
      lowest_terms-some ((load_left f.down w).0 * f.best.1) ((load_left f.down w).1 * f.best.0) (mul-pos is.0 is.1.best.some)

  fold-above : (a : ℕ × ℕ) (fs : List Failure) → 0 < a.1 → All IsDivided fs → IsAtMost a (fold step a fs)
  fold-above a [] some each = omega arith
  fold-above a (f ∷ fs) some each =
      let own = greater_of-above a (regret_at w f) some (regret_at-some f (All-head IsDivided f fs each)) in
      IsAtMost-trans a (step a f) (fold step a (f ∷ fs)) own.2 own.0 (fold-above (step a f) fs own.2 (All-tail IsDivided f fs each))

  fold-each : (a : ℕ × ℕ) (fs : List Failure) → 0 < a.1 → All IsDivided fs → (k : ℕ) (f : Failure) → k < length fs → get_or fs k f ≡ f
      → IsAtMost (regret_at w f) (fold step a fs)
  fold-each a [] some each k f lt is = absurd (omega arith)
  fold-each a (g ∷ fs) some each zero f lt is =
      let own = greater_of-above a (regret_at w g) some (regret_at-some g (All-head IsDivided g fs each)) in
      subst (λ h. IsAtMost (regret_at w h) (fold step a (g ∷ fs))) is
      (IsAtMost-trans (regret_at w g) (step a g) (fold step a (g ∷ fs)) own.2 own.1 (fold-above (step a g) fs own.2 (All-tail IsDivided g fs each)))
  fold-each a (g ∷ fs) some each (suc k) f lt is =
      let own = greater_of-above a (regret_at w g) some (regret_at-some g (All-head IsDivided g fs each)) in
      fold-each (step a g) fs own.2 (All-tail IsDivided g fs each) k f (omega arith) is

  -- a failure at which there is a regret
  regret_at-above : (r : ℕ × ℕ) (f : Failure) → IsDivided f → Regrets r w f → IsAtMost r (regret_at w f)
  regret_at-above r f is regrets =
      let load = load_left f.down w in
      elim regrets.1 as (λ _. IsAtMost r (regret_at w f)) [
        | inl none ↦ absurd (omega (arith, none, is.1.left))
        | inr high ↦ IsAtMost-lowest_terms r (load.0 * f.best.1) (load.1 * f.best.0) (mul-pos is.0 is.1.best.some) (omega (arith, high))
      ]

  pub regret_of-above : (r : ℕ × ℕ) (failures : List Failure) → All IsDivided failures → Any (Regrets r w) failures → IsAtMost r (regret_of w failures)
  regret_of-above r failures each found =
      let f = found.1 in
      let is : IsDivided f = subst IsDivided found.3 (each found.0 f found.2) in
      let own = regret_at-above r f is found.4 in
      IsAtMost-trans r (regret_at w f) (regret_of w failures) (regret_at-some f is) own
      (fold-each (0, 1) failures (omega arith) each found.0 f found.2 found.3)

-- the regret of weights within the limit is at least the bound
pub regret_of-bound : (r limit : ℕ × ℕ) (w v : Weighted) (failures : List Failure) → AreWeights w → IsRegretBound r w limit failures → IsRival w v
    → IsAtMost (load_of v) limit → All (IsBorne v) failures → IsAtMost r (regret_of v failures)
regret_of-bound r limit w v failures h bound is within borne =
    let capacities : AreCapacities v.capacities v.system.voters =
    subst (λ s. AreCapacities v.capacities s.voters) (sym is.system) (subst (λ cs. AreCapacities cs w.system.voters) (sym is.capacities) h.capacities) in
    let divided : (f : Failure) → IsBorne v f → 0 < (load_left f.down v).1 = λ f own.
    let some = greatest_ratio-some v.system.voters v.capacities (cycle_count (weights_left f.down v)) capacities in
    lowest_terms-some (ratio_left f.down v).0 ((ratio_left f.down v).1 * tickets_left f.down v) (mul-pos some own.left) in
    regret_of-above v r failures (λ k d lt. (divided (get_or failures k d) (borne k d lt), borne k d lt)) (bound v is within)
