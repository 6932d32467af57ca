-- Lemmas on faults of an input.
use Rattle.std.proofs.Common.{◌≡◌, List, ℕ, subst}
use Rattle.commands.specs.Commands.{ComesOf, IsAnswer, IsServed, Refuses, planned_in}
use Rattle.commands.specs.declared.fault.Fault.{Fault}
use Rattle.commands.specs.declared.fault.Fault.TheVariants.{Cluster, Device, OutOfMemory}
use Rattle.command_line.specs.declared.command.Command.{Command}
use Rattle.command_line.specs.declared.command.Command.TheVariants as qlock
use Rattle.show_refusals.specs.Pages.{IsTaken, MayTurnDown}

-- a command that has an output for the input takes it
is_taken : (command : Command) (input output : List ℕ) → IsServed command → IsAnswer command input output → IsTaken command input
is_taken (qlock.Run clients passes turns) input output served h = absurd served
is_taken command input output served h = (output, h)

-- and so does one that has an output for the same bytes
pub served_is_taken : (command : Command) (known input output : List ℕ) → IsServed command → IsAnswer command known output → known ≡ input → IsTaken command input
served_is_taken command known input output served h same = is_taken command input output served (subst (λ (text : List ℕ). IsAnswer command text output) same h)

-- a fault of a command that was served
fault_comes : (command : Command) (input : List ℕ) (fault : Fault) → ComesOf command input fault → MayTurnDown command input fault
fault_comes command input (Device fault) h = tt
fault_comes command input OutOfMemory h = tt
fault_comes command input (Cluster fault) h = tt
fault_comes command input fault h = h.1

-- and of one that was served for the same bytes
pub served_fault_comes : (command : Command) (known input : List ℕ) (fault : Fault) → ComesOf command known fault → known ≡ input → MayTurnDown command input fault
served_fault_comes command known input fault h same = fault_comes command input fault (subst (λ (text : List ℕ). ComesOf command text fault) same h)

-- a fault of the input of `run`
pub run_fault_comes : (clients passes turns : ℕ) (input : List ℕ) (fault : Fault) → Refuses fault (planned_in input) → MayTurnDown (qlock.Run clients passes turns) input fault
run_fault_comes clients passes turns input (Device fault) h = tt
run_fault_comes clients passes turns input OutOfMemory h = tt
run_fault_comes clients passes turns input (Cluster fault) h = tt
run_fault_comes clients passes turns input fault h = h
