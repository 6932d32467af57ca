-- The faults of devices, as faults of a command.
use Rattle.std.specs.Prelude.{◌≡◌, ℕ, ◌<◌, length, IfSome, Bool, true, false, List, Option, Result, Ok, Err, ⊤}
use Rattle.std.specs.Io.KnownBytes.{Consumes}
use Rattle.whole_io.specs.declared.fault.DeviceFault.TheVariants.{ReadFault, TooLong, WriteFault}
use Rattle.commands.specs.declared.fault.Fault.{Fault}
use Rattle.commands.specs.declared.fault.Fault.TheVariants.{Device, OutOfMemory}

-- At most one of the devices has failed, and its fault is returned if and only if it has failed.
abbrev pub FailsAs : {A : Type 0} → Bool → Bool → Result A Fault → Type 0
FailsAs read_failed write_failed (Ok x) = (read_failed ≡ false) × (write_failed ≡ false)
FailsAs read_failed write_failed (Err (Device ReadFault)) = (read_failed ≡ true) × (write_failed ≡ false)
FailsAs read_failed write_failed (Err (Device WriteFault)) = (read_failed ≡ false) × (write_failed ≡ true)
FailsAs read_failed write_failed (Err fault) = (read_failed ≡ false) × (write_failed ≡ false)

-- a fault of reading these bytes, if they are known: there are too many, the reader failed, or
-- memory ran out
abbrev pub IsOfReading : Option (List ℕ) → Fault → Type 0
IsOfReading bytes (Device TooLong) = IfSome bytes (λ input. 16777216 < length input)
IsOfReading bytes (Device ReadFault) = ⊤
IsOfReading bytes OutOfMemory = ⊤
IsOfReading bytes fault = ⊥

-- What a fault leaves unread of these bytes. After `TooLong`, all except the first 16,777,217: one
-- byte more than the longest input has. Nothing is said of other faults.
abbrev pub LeavesUnread : Option (List ℕ) → Option (List ℕ) → Fault → Type 0
LeavesUnread old new (Device TooLong) = (taken : List ℕ) × (length taken ≡ 16777217) × Consumes old new taken
LeavesUnread old new fault = ⊤

-- a fault of the command itself: not of a device
abbrev pub IsOwn : Fault → Type 0
IsOwn (Device fault) = ⊥
IsOwn fault = ⊤
