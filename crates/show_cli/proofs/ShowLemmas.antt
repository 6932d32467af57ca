-- Lemmas on what is shown for what was read, and on faults.
use Rattle.std.proofs.Common.{◌≡◌, ℕ, ◌≤◌, Bool, true, false, cond, length, List, [], Option, None, Some, ap, subst, refl}
use Rattle.std.specs.Prelude.{Err, IfSome}
use Rattle.std.specs.Bool.{OnFalse}
use Rattle.std.specs.Io.KnownBytes.{Appends}
use Rattle.whole_io.specs.Devices.{AppendsBeginning}
use Rattle.whole_io.specs.declared.fault.DeviceFault.TheVariants.{ReadFault, TooLong, WriteFault}
use Rattle.plan_inputs.specs.Faults.{is_out_of_memory, refused_as}
use Rattle.plan_inputs.specs.Inputs.{coterie_in}
use Rattle.plan_inputs.specs.declared.fault.InputFault.{InputFault}
use Rattle.plan_inputs.specs.declared.fault.InputFault.TheVariants as inputs
use Rattle.commands.specs.Commands.{Refuses, coterie_part}
use Rattle.commands.specs.Devices.{IsOfReading, IsOwn}
use Rattle.commands.specs.Faults.{IsOfFile, input_refusal}
use Rattle.commands.specs.declared.fault.Fault.{Fault}
use Rattle.commands.specs.declared.fault.Fault.TheVariants.{Device, Input, OutOfMemory}
use Rattle.show_cli.specs.Failures.{RefusesWithout}
use Rattle.show_cli.specs.Pages.{BeginsShowing, ComesOfShowing, IsPage, OfRead, RefusesPage, Shows, reads_page_input}
use Rattle.show_command_line.specs.declared.command.ShowCommand.{ShowCommand}

-- what holds of what was read, holds of what the command reads of the known bytes
of_seen : (P : List ℕ → Type 0) (reads : Bool) (bytes : Option (List ℕ)) (input : List ℕ) → (reads ≡ true → IfSome bytes (λ known. input ≡ known)) → (reads ≡ false → input ≡ []) → P input
    → IfSome bytes (λ known. P (cond reads known []))
of_seen P reads None input all nothing h = tt
of_seen P true (Some known) input all nothing h = subst P (all refl) h
of_seen P false (Some known) input all nothing h = subst P (nothing refl) h

-- a page was written
pub page_shown : (command : ShowCommand) (bytes old new : Option (List ℕ)) (input page : List ℕ) → (reads_page_input command ≡ true → IfSome bytes (λ known. input ≡ known))
    → (reads_page_input command ≡ false → input ≡ [])
    → length input ≤ 16777216 → IsPage command input page → Appends old new page → OfRead command bytes (Shows command old new)
page_shown command bytes old new input page all nothing short is_page written =
    of_seen (Shows command old new) (reads_page_input command) bytes input all nothing (record { short = short; page = page; is_page = is_page; written = written })

-- a beginning of a page was written
pub page_begun : (command : ShowCommand) (bytes old new : Option (List ℕ)) (input page : List ℕ) → (reads_page_input command ≡ true → IfSome bytes (λ known. input ≡ known))
    → (reads_page_input command ≡ false → input ≡ [])
    → length input ≤ 16777216 → IsPage command input page → AppendsBeginning old new page → OfRead command bytes (BeginsShowing command old new)
page_begun command bytes old new input page all nothing short is_page begun =
    of_seen (BeginsShowing command old new) (reads_page_input command) bytes input all nothing (record { short = short; page = page; is_page = is_page; begun = begun })

-- there is a page that could not be written
pub write_fault_comes : (command : ShowCommand) (bytes : Option (List ℕ)) (input page : List ℕ) → (reads_page_input command ≡ true → IfSome bytes (λ known. input ≡ known))
    → (reads_page_input command ≡ false → input ≡ [])
    → IsPage command input page → OfRead command bytes (ComesOfShowing command (Device WriteFault))
write_fault_comes command bytes input page all nothing is_page =
    of_seen (ComesOfShowing command (Device WriteFault)) (reads_page_input command) bytes input all nothing (page, is_page)

-- a fault of the command's own comes of what was read
own_of_seen : (command : ShowCommand) (seen : List ℕ) (fault : Fault) → IsOwn fault → RefusesPage command seen fault → ComesOfShowing command fault seen
own_of_seen command seen (Device fault) own h = absurd own
own_of_seen command seen OutOfMemory own h = tt
own_of_seen command seen fault own h = h

pub own_fault_comes : (command : ShowCommand) (bytes : Option (List ℕ)) (input : List ℕ) (fault : Fault) → (reads_page_input command ≡ true → IfSome bytes (λ known. input ≡ known))
    → (reads_page_input command ≡ false → input ≡ [])
    → IsOwn fault → RefusesPage command input fault → OfRead command bytes (ComesOfShowing command fault)
own_fault_comes command bytes input fault all nothing own h =
    of_seen (ComesOfShowing command fault) (reads_page_input command) bytes input all nothing (own_of_seen command input fault own h)

-- a fault of reading comes of what was read
reading_of_seen : (command : ShowCommand) (known : List ℕ) (reads : Bool) (fault : Fault) → reads_page_input command ≡ true → reads ≡ true → IsOfReading (Some known) fault
    → ComesOfShowing command fault (cond reads known [])
reading_of_seen command known false fault reads e h = absurd cc
reading_of_seen command known true (Device TooLong) reads e h = h
reading_of_seen command known true (Device ReadFault) reads e h = reads
reading_of_seen command known true OutOfMemory reads e h = tt
reading_of_seen command known true fault reads e h = absurd h

pub reading_fault_comes : (command : ShowCommand) (bytes : Option (List ℕ)) (fault : Fault) → reads_page_input command ≡ true → IsOfReading bytes fault
    → OfRead command bytes (ComesOfShowing command fault)
reading_fault_comes command None fault reads h = tt
reading_fault_comes command (Some known) fault reads h = reading_of_seen command known (reads_page_input command) fault reads reads h

-- an input that is no coterie is refused for that
pub no_coterie_left : (words : List (List ℕ)) (input : List ℕ) (fault : Fault) → IsOfFile fault → Refuses fault (coterie_part input) → RefusesWithout words input fault
no_coterie_left words input OutOfMemory of_file h = h
no_coterie_left words input (Input (inputs.File fault)) of_file h = h
no_coterie_left words input fault of_file h = absurd of_file

-- an input for which no weights are found is refused for its coterie
pub unfound_refused : (input : List ℕ) (fault : InputFault) → OnFalse (is_out_of_memory fault) (coterie_in input ≡ Err fault) → Refuses (input_refusal fault) (coterie_part input)
unfound_refused input inputs.OutOfMemory h = tt
unfound_refused input fault h = ap (refused_as Input) h
