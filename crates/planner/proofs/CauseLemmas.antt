-- The causes that the check of weights can have.
use Rattle.std.proofs.Common.{◌≡◌, ℕ, List, Bool, true, false, not, ◌&&◌, ◌==◌, cond, length, refl, sym, subst, ◌∙◌, Option, None, Some, Err}
use Rattle.std.proofs.lemmas.Bool.{eq-eqb}
use Rattle.quorum_set.specs.Capacities.{are_unit}
use Rattle.certificate.specs.Certificates.{Weighted, AnswersPlan, weights_fault, balance_fault}
use Rattle.certificate.specs.declared.fault.PlanFault.{PlanFault}
use Rattle.certificate.specs.declared.fault.PlanFault.TheVariants.{WrongLength, TooLarge, Empty, NotOptimal, NotOptimalRatio, OutOfMemory}
use Rattle.planner.specs.Causes.{CanCome, of_plan_fault}

-- what holds of the first fault, and of those behind it, holds of the fault that is found
found_Some : {F : Type 0} (P : F → Type 0) (b : Bool) (f e : F) (rest : Option F) → (b ≡ true → P f) → (rest ≡ Some e → P e) → cond b (Some f) rest ≡ Some e → P e
found_Some P true f e rest own others is = let same : f ≡ e = cc in subst P same (own refl)
found_Some P false f e rest own others is = others is

right_lengths : (a b c d : ℕ) → a ≡ b → c ≡ d → not ((a == b) && (c == d)) ≡ false
right_lengths a b c d first second = rw (eq-eqb a b first, eq-eqb c d second) refl

CanCome-balance_fault : (capacities : List ℕ) (b : Bool) (most total lightest len p q all : ℕ) → are_unit capacities ≡ b
    → CanCome capacities (of_plan_fault (cond b (NotOptimal most total lightest len) (NotOptimalRatio p q all lightest len)))
CanCome-balance_fault capacities true most total lightest len p q all is = is
CanCome-balance_fault capacities false most total lightest len p q all is = is

CanCome-weights_fault : (w : Weighted) (e : PlanFault) → length w.quorum_weights ≡ length w.system.quorums → length w.voter_weights ≡ w.system.voters → weights_fault w ≡ Some e
    → CanCome w.capacities (of_plan_fault e)
CanCome-weights_fault w e quorums voters is =
    let P : PlanFault → Type 0 = λ f. CanCome w.capacities (of_plan_fault f) in
    let right = right_lengths _ _ _ _ quorums voters in
    found_Some P _ WrongLength e _ (λ wrong. absurd (apart (sym right ∙ wrong)))
    (found_Some P _ TooLarge e _ (λ large. tt)
    (found_Some P _ Empty e _ (λ empty. tt)
    (found_Some P _ (balance_fault w) e None (λ unequal. CanCome-balance_fault w.capacities _ _ _ _ _ _ _ _ refl) (λ nothing. nothing_found nothing))))
    is
  where
    apart : false ≡ true → ⊥
    apart e = cc

    nothing_found : {X : Type 0} {F : Type 0} {e : F} → ◌≡◌ {A = Option F} None (Some e) → X
    nothing_found is = cc

-- the fault of a check of weights that are not too few and not too many
pub CanCome-check : (w : Weighted) (e : PlanFault) → length w.quorum_weights ≡ length w.system.quorums → length w.voter_weights ≡ w.system.voters → AnswersPlan w (Err e)
    → CanCome w.capacities (of_plan_fault e)
CanCome-check w OutOfMemory quorums voters is = tt
CanCome-check w e quorums voters is = CanCome-weights_fault w e quorums voters is
