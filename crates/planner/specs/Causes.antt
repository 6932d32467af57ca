-- The cause for each fault of the simplex method, and for each fault of the check of its weights.
use Rattle.std.specs.Prelude.{◌≡◌, ℕ, List, true, false}
use Rattle.quorum_set.specs.Capacities.{are_unit}
use Rattle.simplex.specs.declared.fault.SimplexFault.{SimplexFault}
use Rattle.simplex.specs.declared.fault.SimplexFault.TheVariants.{Overflow as TooWide, PivotLimit as TooLong, NoRow as Unlimited, OutOfMemory as NoRoom}
use Rattle.certificate.specs.declared.fault.PlanFault.{PlanFault}
use Rattle.certificate.specs.declared.fault.PlanFault.TheVariants.{WrongLength as OtherLength, TooLarge as AboveLimit, Empty as AllZero, NotOptimalRatio as Unbalanced, OutOfMemory as NoPlace}
use Rattle.planner.specs.declared.fault.Cause.TheVariants.{Overflow, PivotLimit, NoRow, WrongLength, TooLarge, Empty, NotOptimal, NotOptimalRatio}
use Rattle.planner.specs.declared.fault.PlannerFault.{PlannerFault}
use Rattle.planner.specs.declared.fault.PlannerFault.TheVariants.{NoPlan, OutOfMemory}

-- the planner's fault for a fault of the simplex method
abbrev pub of_simplex_fault : SimplexFault → PlannerFault
of_simplex_fault (TooWide pivots) = NoPlan Overflow
of_simplex_fault TooLong = NoPlan PivotLimit
of_simplex_fault Unlimited = NoPlan NoRow
of_simplex_fault NoRoom = OutOfMemory

-- the planner's fault for a fault of the check; faults of a plan's text do not occur here
abbrev pub of_plan_fault : PlanFault → PlannerFault
of_plan_fault OtherLength = NoPlan WrongLength
of_plan_fault AboveLimit = NoPlan TooLarge
of_plan_fault AllZero = NoPlan Empty
of_plan_fault (Unbalanced numerator denominator total lightest len) = NoPlan NotOptimalRatio
of_plan_fault NoPlace = OutOfMemory
of_plan_fault fault = NoPlan NotOptimal

-- The fault is possible for these capacities. The cause is never that there are too few or too many
-- weights. Weights that were no certificate have one cause if all capacities are 1, and another one
-- if some is not.
abbrev pub CanCome : List ℕ → PlannerFault → Type 0
CanCome capacities (NoPlan WrongLength) = ⊥
CanCome capacities (NoPlan NotOptimal) = are_unit capacities ≡ true
CanCome capacities (NoPlan NotOptimalRatio) = are_unit capacities ≡ false
CanCome capacities fault = Unit {0}
