-- The faults of a shape, as faults of a command.
use Rattle.std.specs.Prelude.{◌≡◌}
use Rattle.plan_inputs.specs.declared.fault.InputFault.TheVariants as inputs
use Rattle.commands.specs.declared.fault.Fault.{Fault}
use Rattle.commands.specs.declared.fault.Fault.TheVariants as faults
use Rattle.show_coteries.specs.declared.fault.ShapeFault.{ShapeFault}
use Rattle.show_coteries.specs.declared.fault.ShapeFault.TheVariants.{Construct, File, OutOfMemory}

-- a fault of a shape, as a fault of a command
abbrev pub shape_refusal : ShapeFault → Fault
shape_refusal (Construct fault) = faults.Construct fault
shape_refusal (File fault) = faults.Input (inputs.File fault)
shape_refusal OutOfMemory = faults.OutOfMemory

-- the fault is one of a shape
abbrev pub IsShapeRefusal : Fault → Type 0
IsShapeRefusal fault = (of_shape : ShapeFault) × (fault ≡ shape_refusal of_shape)
