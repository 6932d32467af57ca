-- The faults of texts. Out of memory is one fault, wherever it comes from.
use Rattle.std.specs.Prelude.{Bool, true, false, Result, Ok, Err}
use Rattle.numbers.specs.Results.{RefusesUnless, GivesUnless}
use Rattle.coterie_file.specs.declared.fault.FileFault.{FileFault}
use Rattle.coterie_file.specs.declared.fault.FileFault.TheVariants as file
use Rattle.certificate.specs.declared.fault.PlanFault.{PlanFault}
use Rattle.certificate.specs.declared.fault.PlanFault.TheVariants as plan
use Rattle.planner.specs.declared.fault.PlannerFault.{PlannerFault}
use Rattle.planner.specs.declared.fault.PlannerFault.TheVariants as planner
use Rattle.plan_inputs.specs.declared.fault.InputFault.{InputFault}
use Rattle.plan_inputs.specs.declared.fault.InputFault.TheVariants.{File, Plan, Planner, OutOfMemory}

abbrev pub file_refusal : FileFault → InputFault
file_refusal file.OutOfMemory = OutOfMemory
file_refusal fault = File fault

abbrev pub plan_refusal : PlanFault → InputFault
plan_refusal plan.OutOfMemory = OutOfMemory
plan_refusal fault = Plan fault

abbrev pub planner_refusal : PlannerFault → InputFault
planner_refusal planner.OutOfMemory = OutOfMemory
planner_refusal fault = Planner fault

-- the same result, its fault under another name
abbrev pub refused_as : {A E F : Type 0} → (E → F) → Result A E → Result A F
refused_as name (Ok x) = Ok x
refused_as name (Err e) = Err (name e)

-- the fault is out of memory
abbrev pub is_out_of_memory : InputFault → Bool
is_out_of_memory OutOfMemory = true
is_out_of_memory fault = false

-- the fault is out of memory, or the wanted result is this fault
abbrev pub Refuses : {Y : Type 0} → InputFault → Result Y InputFault → Type 0
Refuses fault wanted = RefusesUnless is_out_of_memory fault wanted

-- the result, mapped by `view`, is the wanted one, unless memory ran out
abbrev pub Gives : {X Y : Type 0} → (X → Y) → Result X InputFault → Result Y InputFault → Type 0
Gives view result wanted = GivesUnless is_out_of_memory view result wanted

-- the fault is of a coterie's text, or out of memory
abbrev pub IsOfFile : InputFault → Type 0
IsOfFile (File fault) = Unit {0}
IsOfFile OutOfMemory = Unit {0}
IsOfFile fault = ⊥
