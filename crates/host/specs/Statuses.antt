-- Exit statuses of a command that was served.
use Rattle.std.specs.Prelude.{ℕ, Bool, true, Result, Ok, Err}
use Rattle.whole_io.specs.declared.fault.DeviceFault.TheVariants.{WriteFault}
use Rattle.commands.specs.Statuses.{status_of}
use Rattle.commands.specs.declared.fault.Fault.{Fault}
use Rattle.commands.specs.declared.fault.Fault.TheVariants.{Device}

-- 0 if the command did not fail, else that of its fault
abbrev pub served_status : {A : Type 0} → Result A Fault → ℕ
served_status (Ok x) = 0
served_status (Err fault) = status_of fault

-- 0 if a write failed since nobody reads, else that of the command
abbrev pub shown_status : {A : Type 0} → Bool → Result A Fault → ℕ
shown_status true (Err (Device WriteFault)) = 0
shown_status is_unread served = served_status served
