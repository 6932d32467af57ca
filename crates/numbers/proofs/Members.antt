-- What holds of all members of a set.
use Rattle.std.proofs.Common.{◌≡◌, ℕ, suc, Bool, true, true≢false, List, [], ◌∷◌, sym, ap, ◌∙◌, subst, arith, ne_eqb}
use Rattle.std.specs.Prelude.{◌||◌}
use Rattle.std.specs.List.{All}
use mathlib.Core.Logic.{dite}
use native.Mathlib.Decide.{ℕ_discrete}
use Rattle.numbers.specs.Sets.{has}

-- what holds of all members holds of each
pub All-has : (P : ℕ → Type 0) (q : List ℕ) (v : ℕ) → has q v ≡ true → All P q → P v
All-has P [] v e h = absurd (true≢false (sym e))
All-has P (x ∷ xs) v e h = dite (ℕ_discrete x v)
    (λ here. subst P here (h 0 0 (omega arith)))
    (λ far. All-has P xs v (sym (ap (λ (t : Bool). t || has xs v) (ne_eqb x v far)) ∙ e) (λ k d lt. h (suc k) d (omega arith)))
