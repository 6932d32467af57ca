-- Exit statuses.
use Rattle.std.specs.Prelude.{ℕ}
use Rattle.whole_io.specs.declared.fault.DeviceFault.TheVariants.{ReadFault, WriteFault}
use Rattle.commands.specs.declared.fault.Fault.{Fault}
use Rattle.commands.specs.declared.fault.Fault.TheVariants.{Device, OutOfMemory}
use Rattle.command_line.specs.declared.usage.Usage.{Usage}
use Rattle.command_line.specs.declared.usage.Usage.TheVariants as usage

-- 3 if a read or a write failed, 4 if memory ran out, else 1
abbrev pub status_of : Fault → ℕ
status_of (Device ReadFault) = 3
status_of (Device WriteFault) = 3
status_of OutOfMemory = 4
status_of fault = 1

-- for words that name no command: 4 if memory ran out, else 2
abbrev pub usage_status : Usage → ℕ
usage_status usage.OutOfMemory = 4
usage_status other = 2
