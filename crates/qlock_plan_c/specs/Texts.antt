-- Results that depend on what texts describe.
use Rattle.std.specs.Prelude.{◌≡◌, ℕ, zero, suc, List, Result, Ok, Err}
use Rattle.std.specs.Bool.{OnFalse}
use Rattle.plan_inputs.specs.Faults.{is_out_of_memory}
use Rattle.certificate.specs.Certificates.{Weighted}
use Rattle.plan_inputs.specs.Inputs.{PlannedSystem, WeighedSystem, planned_by, weighed_by}
use Rattle.plan_inputs.specs.declared.fault.InputFault.{InputFault}
use Rattle.qlock_plan_c.specs.Orders.{IsOrder}
use Rattle.qlock_plan_c.specs.declared.order.Order.{Order}

-- the result is one that this holds of, for what was read of texts, or the fault of reading them,
-- unless memory ran out
abbrev pub GivesFrom : {S X : Type 0} → (S → X → Type 0) → Result S InputFault → Result X InputFault → Type 0
GivesFrom {S} holds read (Ok x) = (s : S) × (read ≡ Ok s) × holds s x
GivesFrom holds read (Err fault) = OnFalse (is_out_of_memory fault) (read ≡ Err fault)

-- The texts describe a coterie and these weights of it, as the order with this number needs them: the
-- order by rounds, 0, needs a plan, and the even one any weights.
abbrev pub AreDescribed : ℕ → (coterie weights : List ℕ) → Weighted → Type 0
AreDescribed zero coterie weights w =
    (planned : PlannedSystem) × (planned_by coterie weights ≡ Ok planned) × (planned.plan ≡ w)
AreDescribed (suc other) coterie weights w =
    (weighed : WeighedSystem) × (weighed_by coterie weights ≡ Ok weighed) × (weighed.weights ≡ w)

-- the texts are refused with this fault, as those that the order with this number needs
abbrev pub AreRefused : ℕ → (coterie weights : List ℕ) → InputFault → Type 0
AreRefused zero coterie weights fault = planned_by coterie weights ≡ Err fault
AreRefused (suc other) coterie weights fault = weighed_by coterie weights ≡ Err fault

-- the result is the order with this number of what the texts describe, or the fault of the texts,
-- unless memory ran out
abbrev pub GivesOrder : ℕ → (coterie weights : List ℕ) → Result Order InputFault → Type 0
GivesOrder number coterie weights (Ok by) =
    (w : Weighted) × AreDescribed number coterie weights w × IsOrder w number by
GivesOrder number coterie weights (Err fault) =
    OnFalse (is_out_of_memory fault) (AreRefused number coterie weights fault)
