-- A failure with other multipliers.
use Rattle.std.proofs.Common.{◌≡◌, ℕ, List, sym, subst, ap, ◌∙◌}
use Rattle.quorum_set.specs.Coteries.{QuorumSystem}
use Rattle.certificate.specs.Certificates.{load_of}
use Rattle.certificate.specs.Ratios.{IsAtMost}
use Rattle.failures.specs.Failures.{system_without}
use Rattle.losses.specs.declared.failure.Failure.{Failure}
use Rattle.robust.specs.Robust.{IsPlanned}

pub IsPlanned-same : (s : QuorumSystem) (capacities : List ℕ) (f g : Failure) → g.down ≡ f.down → g.best ≡ f.best → g.is_best ≡ f.is_best
    → IsPlanned s capacities f → IsPlanned s capacities g
IsPlanned-same s capacities f g down best is_best h = record {
  weights = h.weights;
  system = h.system ∙ ap (λ (d : List ℕ). system_without d s) (sym down);
  same_capacities = h.same_capacities;
  are = h.are;
  load = best ∙ h.load;
  least = λ e v rival. subst (λ (b : ℕ × ℕ). IsAtMost b (load_of v)) (sym best) (h.least (sym is_best ∙ e) v rival);
}
