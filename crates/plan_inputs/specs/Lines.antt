-- The line of each fault: its code and name, and its numbers. There is no newline at the end.
use Rattle.std.specs.Prelude.{ℕ, List, [], ◌∷◌, ◌++◌, codes}
use Rattle.std.specs.List.{flat_map}
use Rattle.std.specs.Fmt.{decimal}
use Rattle.quorum_set.specs.declared.fault.CoterieFault.{CoterieFault}
use Rattle.quorum_set.specs.declared.fault.CoterieFault.TheVariants as coterie
use Rattle.coterie_file.specs.declared.fault.FileFault.{FileFault}
use Rattle.coterie_file.specs.declared.fault.FileFault.TheVariants as file
use Rattle.certificate.specs.declared.fault.PlanFault.{PlanFault}
use Rattle.certificate.specs.declared.fault.PlanFault.TheVariants as plan
use Rattle.planner.specs.declared.fault.Cause.{Cause}
use Rattle.planner.specs.declared.fault.Cause.TheVariants as cause
use Rattle.planner.specs.declared.fault.PlannerFault.{PlannerFault}
use Rattle.planner.specs.declared.fault.PlannerFault.TheVariants as planner
use Rattle.plan_inputs.specs.declared.fault.InputFault.{InputFault}
use Rattle.plan_inputs.specs.declared.fault.InputFault.TheVariants as faults

-- the words, and each number after a space
abbrev pub numbered_line : List ℕ → List ℕ → List ℕ
numbered_line words numbers = words ++ flat_map (λ n. 32 ∷ decimal n) numbers

-- the line of a fault of a list of sets
abbrev pub coterie_line : CoterieFault → List ℕ
coterie_line coterie.NoVoters = codes "E1 NoVoters"
coterie_line coterie.TooManyVoters = codes "E2 TooManyVoters"
coterie_line coterie.NoQuorums = codes "E3 NoQuorums"
coterie_line coterie.TooManyQuorums = codes "E4 TooManyQuorums"
coterie_line (coterie.EmptyQuorum j) = numbered_line (codes "E5 EmptyQuorum") (j ∷ [])
coterie_line (coterie.VoterOutOfRange j i) = numbered_line (codes "E6 VoterOutOfRange") (j ∷ i ∷ [])
coterie_line (coterie.Disjoint j k) = numbered_line (codes "E7 Disjoint") (j ∷ k ∷ [])
coterie_line (coterie.Contained j k) = numbered_line (codes "E8 Contained") (j ∷ k ∷ [])

-- the line of a fault of a coterie's text
abbrev pub file_line : FileFault → List ℕ
file_line file.NotToml = codes "F1 NotToml"
file_line file.Keys = codes "F2 Keys"
file_line (file.BadName i) = numbered_line (codes "F3 BadName") (i ∷ [])
file_line (file.RepeatedName i) = numbered_line (codes "F4 RepeatedName") (i ∷ [])
file_line (file.UnknownName j) = numbered_line (codes "F5 UnknownName") (j ∷ [])
file_line (file.RepeatedMember j) = numbered_line (codes "F6 RepeatedMember") (j ∷ [])
file_line (file.CapacityCount n) = numbered_line (codes "F7 CapacityCount") (n ∷ [])
file_line (file.BadCapacity i) = numbered_line (codes "F8 BadCapacity") (i ∷ [])
file_line (file.Coterie fault) = coterie_line fault
file_line file.OutOfMemory = codes "O1 OutOfMemory"

-- the line of a fault of a plan's text
abbrev pub plan_line : PlanFault → List ℕ
plan_line plan.WrongLength = codes "P1 WrongLength"
plan_line plan.TooLarge = codes "P2 TooLarge"
plan_line plan.Empty = codes "P3 Empty"
plan_line (plan.NotOptimal busiest total lightest len) =
    numbered_line (codes "P4 NotOptimal") (busiest ∷ total ∷ lightest ∷ len ∷ [])
plan_line (plan.BadText line) = numbered_line (codes "P5 BadText") (line ∷ [])
plan_line plan.WrongLoad = codes "P6 WrongLoad"
plan_line plan.WrongCycle = codes "P7 WrongCycle"
plan_line (plan.NotOptimalRatio numerator denominator total lightest len) =
    numbered_line (codes "P8 NotOptimalRatio") (numerator ∷ denominator ∷ total ∷ lightest ∷ len ∷ [])
plan_line plan.WrongCapacity = codes "P9 WrongCapacity"
plan_line plan.WrongBound = codes "P10 WrongBound"
plan_line plan.OutOfMemory = codes "O1 OutOfMemory"

-- the line of a search that ended without a plan
abbrev pub cause_line : Cause → List ℕ
cause_line cause.Overflow = codes "N1 NoPlan S1"
cause_line cause.PivotLimit = codes "N1 NoPlan S2"
cause_line cause.NoRow = codes "N1 NoPlan S3"
cause_line cause.WrongLength = codes "N1 NoPlan P1"
cause_line cause.TooLarge = codes "N1 NoPlan P2"
cause_line cause.Empty = codes "N1 NoPlan P3"
cause_line cause.NotOptimal = codes "N1 NoPlan P4"
cause_line cause.NotOptimalRatio = codes "N1 NoPlan P8"

-- the line of a fault of the planner
abbrev pub planner_line : PlannerFault → List ℕ
planner_line (planner.NoPlan cause) = cause_line cause
planner_line planner.OutOfMemory = codes "O1 OutOfMemory"

-- the line of a fault
abbrev pub line_of : InputFault → List ℕ
line_of (faults.File fault) = file_line fault
line_of (faults.Plan fault) = plan_line fault
line_of (faults.Planner fault) = planner_line fault
line_of faults.OutOfMemory = codes "O1 OutOfMemory"
