-- The faults of other crates, as faults of a command. Out of memory is one fault, wherever it comes
-- from.
use Rattle.whole_io.specs.declared.fault.DeviceFault.{DeviceFault}
use Rattle.whole_io.specs.declared.fault.DeviceFault.TheVariants as device
use Rattle.construct.specs.declared.fault.ConstructFault.{ConstructFault}
use Rattle.construct.specs.declared.fault.ConstructFault.TheVariants as construct
use Rattle.plan_inputs.specs.declared.fault.InputFault.{InputFault}
use Rattle.plan_inputs.specs.declared.fault.InputFault.TheVariants as inputs
use Rattle.replay.specs.declared.fault.ReplayFault.{ReplayFault}
use Rattle.replay.specs.declared.fault.ReplayFault.TheVariants as replay
use Rattle.run_outcome.specs.declared.fault.RunFault.{RunFault}
use Rattle.run_outcome.specs.declared.fault.RunFault.TheVariants as runs
use Rattle.commands.specs.declared.fault.Fault.{Fault}
use Rattle.commands.specs.declared.fault.Fault.TheVariants.{OutOfMemory, Device, Construct, Input, Replay, Cluster}

abbrev pub device_refusal : DeviceFault → Fault
device_refusal device.OutOfMemory = OutOfMemory
device_refusal fault = Device fault

abbrev pub construct_refusal : ConstructFault → Fault
construct_refusal construct.OutOfMemory = OutOfMemory
construct_refusal fault = Construct fault

abbrev pub input_refusal : InputFault → Fault
input_refusal inputs.OutOfMemory = OutOfMemory
input_refusal fault = Input fault

abbrev pub replay_refusal : ReplayFault → Fault
replay_refusal replay.OutOfMemory = OutOfMemory
replay_refusal fault = Replay fault

abbrev pub run_refusal : RunFault → Fault
run_refusal runs.OutOfMemory = OutOfMemory
run_refusal (runs.Cluster fault) = Cluster fault

-- the fault is not of a script, a record or a run
abbrev pub IsBeforeScript : Fault → Type 0
IsBeforeScript (Replay fault) = ⊥
IsBeforeScript (Cluster fault) = ⊥
IsBeforeScript fault = Unit {0}

-- the fault is of a coterie's text, or out of memory
abbrev pub IsOfFile : Fault → Type 0
IsOfFile OutOfMemory = Unit {0}
IsOfFile (Input (inputs.File fault)) = Unit {0}
IsOfFile fault = ⊥
