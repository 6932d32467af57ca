-- What each command writes, as far as it is determined, and its faults.
use Rattle.std.specs.Prelude.{◌≡◌, ℕ, ◌<◌, ◌≤◌, Bool, true, false, if◌then◌else◌, List, [], length, map, option_map, string_bytes, Option, Result, Ok, Err, IfSome, ⊤}
use Rattle.std.specs.Io.KnownBytes.{Appends, IsAtEnd, Keeps}
use Rattle.show_faults.specs.Pages.{IsFaultsList, IsFaultsPage}
use Rattle.show_faults.specs.Texts.{text_of}
use Rattle.show_waiting.specs.Waiting.{waiting_text}
use Rattle.show_svg.specs.Pictures.{IsEnded}
use Rattle.commands.specs.Commands.{Refuses, coterie_part, reads_input, weighed_in}
use Rattle.commands.specs.declared.fault.Fault.{Fault}
use Rattle.commands.specs.declared.fault.Fault.TheVariants.{Device, OutOfMemory}
use Rattle.whole_io.specs.Devices.{AppendsBeginning}
use Rattle.whole_io.specs.declared.fault.DeviceFault.TheVariants.{ReadFault, TooLong, WriteFault}
use Rattle.show_refusals.specs.Pages.{IsFaultPage}
use Rattle.commands.specs.Parts.{split}
use Rattle.show_cli.specs.Failures.{HasCoterie, HasPair, HasParts, HasWeights, IsCompared, IsWithoutOf, RefusesParts, RefusesWithout, files_in, pair_in}
use Rattle.show_cli.specs.Found.{IsFoundPage}
use Rattle.show_cli.specs.Shapes.{IsShapeRefusal}
use Rattle.show_cli.specs.Stories.{IsStory, RefusesStory}
use Rattle.show_coteries.specs.Texts.{IsTextOf}
use Rattle.show_command_line.specs.declared.command.Picture.TheVariants as pictures
use Rattle.show_command_line.specs.declared.command.ShowCommand.{ShowCommand}
use Rattle.show_command_line.specs.declared.command.ShowCommand.TheVariants as show

-- Pages

-- the input is a coterie and weights of it, and the page ends as a picture does
abbrev pub IsWeightsPicture : List ℕ → List ℕ → Type 0
IsWeightsPicture input page = HasWeights input × IsEnded page

-- the input is one of a story, and the page ends as a picture does
abbrev pub IsStoryPicture : List ℕ → List ℕ → Type 0
IsStoryPicture input page = IsStory input × IsEnded page

-- The page is one of the command for the input. Of a page of words only the parts of the input are
-- determined, except for `without`, `waiting`, `explain`, `fault`, the text of `near`, and `compare`: its
-- tables and its JSON.
abbrev pub IsPage : ShowCommand → List ℕ → List ℕ → Type 0
IsPage (show.Plan form) input page = HasWeights input
IsPage show.Check input page = HasWeights input
IsPage show.Report input page = HasWeights input
IsPage (show.Deal dealing) input page = HasWeights input
IsPage (show.Near page_of) input page = IsFoundPage page_of input page
IsPage (show.Coterie shape capacities) input page = IsTextOf (option_map (λ list. list.items) capacities) page
IsPage (show.Compare files form) input page = IsCompared form (map string_bytes files.items) input page
IsPage (show.Without words) input page = IsWithoutOf (map string_bytes words.items) input page
IsPage (show.Resilience form) input page = HasParts (split 2 input) input
IsPage show.Bridge input page = HasPair input
IsPage show.World input page = IsStory input
IsPage (show.Waiting w) input page = page ≡ waiting_text w
IsPage (show.Explain explanation) input page = page ≡ text_of explanation.now
IsPage show.ExplainAll input page = IsFaultsPage page
IsPage show.ListFaults input page = IsFaultsList page
IsPage (show.Fault command) input page = IsFaultPage command input page
IsPage (show.Picture pictures.Load) input page = IsWeightsPicture input page
IsPage (show.Picture pictures.World) input page = IsStoryPicture input page

-- the fault is out of memory, or the command fails with it for the input: a part is missing or has a
-- fault, a word is no voter's name, or the last part is no script
abbrev pub RefusesPage : ShowCommand → List ℕ → Fault → Type 0
RefusesPage (show.Without words) input fault = RefusesWithout (map string_bytes words.items) input fault
RefusesPage (show.Near page_of) input fault = Refuses fault (coterie_part input)
RefusesPage (show.Coterie shape capacities) input fault = IsShapeRefusal fault
RefusesPage (show.Compare files form) input fault = Refuses fault (files_in (length files.items) input)
RefusesPage (show.Resilience form) input fault = RefusesParts (split 2 input) input fault
RefusesPage show.Bridge input fault = Refuses fault (pair_in input)
RefusesPage show.World input fault = RefusesStory input fault
RefusesPage (show.Waiting w) input fault = fault ≡ OutOfMemory
RefusesPage (show.Explain explanation) input fault = fault ≡ OutOfMemory
RefusesPage show.ExplainAll input fault = fault ≡ OutOfMemory
RefusesPage show.ListFaults input fault = fault ≡ OutOfMemory
RefusesPage (show.Fault command) input fault = fault ≡ OutOfMemory
RefusesPage (show.Picture pictures.World) input fault = RefusesStory input fault
RefusesPage command input fault = Refuses fault (weighed_in input)

-- the result is a page of the command for the input, or its fault for the input, or out of memory
abbrev pub IsShownBy : {X : Type 0} → (X → List ℕ) → ShowCommand → List ℕ → Result X Fault → Type 0
IsShownBy view command input (Ok x) = IsPage command input (view x)
IsShownBy view command input (Err fault) = RefusesPage command input fault

-- Devices

-- whether a command reads its input; `coterie`, `waiting`, `explain` and `fault make` don't
abbrev pub reads_page_input : ShowCommand → Bool
reads_page_input (show.Waiting w) = false
reads_page_input (show.Coterie shape capacities) = false
reads_page_input (show.Explain explanation) = false
reads_page_input show.ExplainAll = false
reads_page_input show.ListFaults = false
reads_page_input (show.Fault command) = reads_input command
reads_page_input command = true

-- what the command reads of an input: all of it, or nothing
abbrev pub read_by : ShowCommand → List ℕ → List ℕ
read_by command input = if reads_page_input command then input else []

-- nothing is left of the input, if the command reads it
abbrev pub EndsAfterPage : ShowCommand → Option (List ℕ) → Type 0
EndsAfterPage command bytes = reads_page_input command ≡ true → IsAtEnd bytes

-- a page of the command for what was read was written after what was there
pub record Shows (command : ShowCommand) (old new : Option (List ℕ)) (seen : List ℕ) : Type 0 where
  pub short : length seen ≤ 16777216
  pub page : List ℕ
  pub is_page : IsPage command seen page
  pub written : Appends old new page

-- a beginning of such a page was written after what was there
pub record BeginsShowing (command : ShowCommand) (old new : Option (List ℕ)) (seen : List ℕ) : Type 0 where
  pub short : length seen ≤ 16777216
  pub page : List ℕ
  pub is_page : IsPage command seen page
  pub begun : AppendsBeginning old new page

-- if the bytes are known, this holds of what the command reads of them
abbrev pub OfRead : ShowCommand → Option (List ℕ) → (List ℕ → Type 0) → Type 0
OfRead command bytes P = IfSome bytes (λ input. P (read_by command input))

-- What is written after a fault. After a failed write it is a beginning of a page of the command for
-- the input, if the input is known, added to what was there. After any other fault it is what was
-- there.
abbrev pub LeavesShown : ShowCommand → Option (List ℕ) → Fault → Option (List ℕ) → Option (List ℕ) → Type 0
LeavesShown command bytes (Device WriteFault) old new = OfRead command bytes (BeginsShowing command old new)
LeavesShown command bytes fault old new = Keeps old new

-- The fault is possible for what was read: it is too long, or the command fails with this fault for
-- it. A device or memory may fail whatever was read.
abbrev pub ComesOfShowing : ShowCommand → Fault → List ℕ → Type 0
ComesOfShowing command (Device TooLong) seen = 16777216 < length seen
ComesOfShowing command (Device ReadFault) seen = reads_page_input command ≡ true
ComesOfShowing command (Device WriteFault) seen = (page : List ℕ) × IsPage command seen page
ComesOfShowing command OutOfMemory seen = ⊤
ComesOfShowing command fault seen = RefusesPage command seen fault
