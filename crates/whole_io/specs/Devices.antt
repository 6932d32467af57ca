-- Readers and writers that fail.
use Rattle.std.specs.Prelude.{◌≡◌, ℕ, ◌<◌, length, take, IfSome, Bool, true, false, List, Option, Result, Ok, Err, ⊤}
use Rattle.std.specs.Io.KnownBytes.{Appends, Consumes}
use Rattle.whole_io.specs.declared.fault.DeviceFault.{DeviceFault}
use Rattle.whole_io.specs.declared.fault.DeviceFault.TheVariants.{OutOfMemory, ReadFault, TooLong, WriteFault}

-- At most one of the devices has failed, and its fault is returned if and only if it has failed.
abbrev pub FailsAs : {A : Type 0} → Bool → Bool → Result A DeviceFault → Type 0
FailsAs read_failed write_failed (Ok x) = (read_failed ≡ false) × (write_failed ≡ false)
FailsAs read_failed write_failed (Err ReadFault) = (read_failed ≡ true) × (write_failed ≡ false)
FailsAs read_failed write_failed (Err WriteFault) = (read_failed ≡ false) × (write_failed ≡ true)
FailsAs read_failed write_failed (Err e) = (read_failed ≡ false) × (write_failed ≡ false)

-- a beginning of the output was written after what was there: none of it, some or all
abbrev pub AppendsBeginning : Option (List ℕ) → Option (List ℕ) → List ℕ → Type 0
AppendsBeginning old new output = (n : ℕ) × Appends old new (take n output)

-- What a fault leaves unread of these bytes. After `TooLong`, all except the first 16,777,217: one
-- byte more than the longest input has. Nothing is said of other faults.
abbrev pub LeavesUnread : Option (List ℕ) → Option (List ℕ) → DeviceFault → Type 0
LeavesUnread old new TooLong = (taken : List ℕ) × (length taken ≡ 16777217) × Consumes old new taken
LeavesUnread old new fault = ⊤

-- a fault of reading these bytes, if they are known: there are too many, the reader failed, or
-- memory ran out
abbrev pub IsOfReading : Option (List ℕ) → DeviceFault → Type 0
IsOfReading bytes TooLong = IfSome bytes (λ input. 16777216 < length input)
IsOfReading bytes ReadFault = ⊤
IsOfReading bytes OutOfMemory = ⊤
IsOfReading bytes WriteFault = ⊥
