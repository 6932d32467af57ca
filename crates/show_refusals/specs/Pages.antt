-- The page about the fault with which `qlock` refuses an input.
use Rattle.std.specs.Prelude.{◌≡◌, ◌⊎◌, ℕ, Bool, true, false, List, ◌++◌, codes, Ok}
use Rattle.std.specs.Bool.{OnFalse}
use Rattle.plan_inputs.specs.Inputs.{PlannedSystem}
use Rattle.commands.specs.Commands.{IsAnswer, IsRefusal, planned_in}
use Rattle.commands.specs.declared.fault.Fault.{Fault}
use Rattle.commands.specs.declared.fault.Fault.TheVariants.{Cluster, Device, OutOfMemory}
use Rattle.command_line.specs.declared.command.Command.{Command}
use Rattle.command_line.specs.declared.command.Command.TheVariants as qlock
use Rattle.show_refusals.specs.Codes.{code_of}

-- the page's last line names the command that explains the fault with this code
pub record NamesCode (code page : List ℕ) : Type 0 where
  pub before : List ℕ
  pub is : page ≡ before ++ (codes "  more: qlock-show explain " ++ (code ++ codes "\n"))

-- the command takes the input: it has an output for it, or, for `run`, which is not run here, the
-- input is a coterie and a plan of it
abbrev pub IsTaken : Command → List ℕ → Type 0
IsTaken (qlock.Run clients passes turns) input = (planned : PlannedSystem) × (planned_in input ≡ Ok planned)
IsTaken command input = (output : List ℕ) × IsAnswer command input output

-- the fault is none of the input: it is of a device, of a run, or of memory
abbrev pub is_outside : Fault → Bool
is_outside (Device fault) = true
is_outside (Cluster fault) = true
is_outside OutOfMemory = true
is_outside fault = false

-- the fault is none of the input, or the command refuses the input with it
abbrev pub MayTurnDown : Command → List ℕ → Fault → Type 0
MayTurnDown command input fault = OnFalse (is_outside fault) (IsRefusal command input fault)

-- The page names the code of a fault with which the command may refuse the input. Of an irregular coterie
-- this may be `N1` though `plan` finds a plan.
pub record IsRefusalPage (command : Command) (input page : List ℕ) : Type 0 where
  pub fault : Fault
  pub inside : is_outside fault ≡ false
  pub refused : IsRefusal command input fault
  pub names : NamesCode (code_of fault) page

-- The page says that there is no fault, and the command takes the input. Or the page names the code
-- of a fault with which the command may refuse the input.
abbrev pub IsFaultPage : Command → List ℕ → List ℕ → Type 0
IsFaultPage command input page =
    ((page ≡ codes "qlock does not refuse this input\n") × IsTaken command input) ⊎ IsRefusalPage command input page
