-- Results of calls that may run out of memory.
use Rattle.std.specs.Prelude.{Bool, true, false, Option, None, Some, Result, Ok, Err}
pub use Rattle.numbers.specs.Results.{◌>>=◌}
use Rattle.numbers.specs.Results.{RefusesUnless, GivesUnless}
use Rattle.coterie_file.specs.declared.fault.FileFault.{FileFault}
use Rattle.coterie_file.specs.declared.fault.FileFault.TheVariants.{OutOfMemory}

-- the value, or the fault if there is one
abbrev pub unless : {X : Type 0} → Option FileFault → X → Result X FileFault
unless None x = Ok x
unless (Some fault) x = Err fault

-- the fault is out of memory
abbrev pub is_out_of_memory : FileFault → Bool
is_out_of_memory OutOfMemory = true
is_out_of_memory fault = false

-- the fault is out of memory, or the wanted result is this fault
abbrev pub Refuses : {Y : Type 0} → FileFault → Result Y FileFault → Type 0
Refuses fault wanted = RefusesUnless is_out_of_memory fault wanted

-- the result, mapped by `view`, is the wanted one, unless memory ran out
abbrev pub Gives : {X Y : Type 0} → (X → Y) → Result X FileFault → Result Y FileFault → Type 0
Gives view result wanted = GivesUnless is_out_of_memory view result wanted
