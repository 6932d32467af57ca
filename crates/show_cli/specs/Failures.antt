-- Pages of coteries: what is left when voters fail, what may fail, and bridges; and their faults.
use Rattle.std.specs.Prelude.{◌≡◌, ℕ, ◌+◌, ◌-◌, List, [], ◌∷◌, length, map, slice_index_or, string_bytes, None, Some, Result, Ok, Err, zero, suc}
use Rattle.std.specs.List.{range_with_len}
use Rattle.coterie_file.specs.Named.{NamedSystem}
use Rattle.plan_inputs.specs.Inputs.{WeighedSystem}
use Rattle.show_failures.specs.Names.{first_unknown, voters_named}
use Rattle.show_failures.specs.Without.{without_text}
use Rattle.commands.specs.Commands.{◌>>=◌, Refuses, coterie_part, weighed_in}
use Rattle.commands.specs.Parts.{split}
use Rattle.commands.specs.declared.fault.Fault.{Fault}
use Rattle.commands.specs.declared.fault.Fault.TheVariants.{UnknownVoter}
use Rattle.show_command_line.specs.declared.command.Form.{Form}
use Rattle.show_command_line.specs.declared.command.Form.TheVariants.{Json, Words}
use Rattle.show_compare.specs.Compare.{IsComparePage}
use Rattle.show_compare.specs.declared.entries.Candidate.{Candidate}
use Rattle.show_json.specs.Compared.{IsCompareJson}

-- what an input of two parts describes: two coteries
unfoldable pub pair_in : List ℕ → Result (NamedSystem × NamedSystem) Fault
pair_in input = do
  parts ← split 2 input
  first ← coterie_part parts.0
  second ← coterie_part parts.1
  Ok (first, second)

-- each word is the name of a voter of the coterie in the input, and the page is what is left of it
-- without these voters
pub record IsWithoutOf (words : List (List ℕ)) (input page : List ℕ) : Type 0 where
  pub named : NamedSystem
  pub coterie : coterie_part input ≡ Ok named
  pub known : first_unknown named.names words ≡ None
  pub is : page ≡ without_text named (voters_named named.names words)

-- the word at this place is the first that is not the name of a voter of the coterie in the input
pub record HasUnknown (words : List (List ℕ)) (input : List ℕ) (place : ℕ) : Type 0 where
  pub named : NamedSystem
  pub coterie : coterie_part input ≡ Ok named
  pub unknown : first_unknown named.names words ≡ Some place

-- the fault is out of memory, or the input has it: it is no coterie, or a word is no voter's name
abbrev pub RefusesWithout : List (List ℕ) → List ℕ → Fault → Type 0
RefusesWithout words input (UnknownVoter place) = HasUnknown words input place
RefusesWithout words input fault = Refuses fault (coterie_part input)

-- the input is a coterie
pub record HasCoterie (input : List ℕ) : Type 0 where
  pub named : NamedSystem
  pub coterie : coterie_part input ≡ Ok named

-- the input is two coteries
pub record HasPair (input : List ℕ) : Type 0 where
  pub pair : NamedSystem × NamedSystem
  pub parts : pair_in input ≡ Ok pair

-- the input is a coterie and weights of it, which may be a plan's
pub record HasWeights (input : List ℕ) : Type 0 where
  pub weighed : WeighedSystem
  pub parts : weighed_in input ≡ Ok weighed

-- What an input is whose parts are these: a coterie and weights of it, if a line `%%` is there, and else a
-- coterie alone.
abbrev pub HasParts : Result (List ℕ × List ℕ) Fault → List ℕ → Type 0
HasParts (Ok parts) input = HasWeights input
HasParts (Err fault) input = HasCoterie input

-- the fault is out of memory, or such an input has it
abbrev pub RefusesParts : Result (List ℕ × List ℕ) Fault → List ℕ → Fault → Type 0
RefusesParts (Ok parts) input fault = Refuses fault (weighed_in input)
RefusesParts (Err none) input fault = Refuses fault (coterie_part input)

-- What an input describes that has so many lines `%%`: one coterie more. Its first part has this number.
unfoldable pub coteries_in : ℕ → ℕ → List ℕ → Result (List NamedSystem) Fault
coteries_in zero number input = do
  last ← coterie_part input
  Ok (last ∷ [])
coteries_in (suc n) number input = do
  parts ← split (number + 1) input
  first ← coterie_part parts.0
  others ← coteries_in n (number + 1) parts.1
  Ok (first ∷ others)

-- what an input describes that is made of so many files: as many coteries
abbrev pub files_in : ℕ → List ℕ → Result (List NamedSystem) Fault
files_in files input = coteries_in (files - 1) 1 input

-- the name of the file at this place, or no name if there is none
abbrev pub file_name : List (List ℕ) → ℕ → List ℕ
file_name files place = slice_index_or files place []

-- the names of so many coteries: those of the files, in order
abbrev pub file_names : ℕ → List (List ℕ) → List (List ℕ)
file_names n files = map (file_name files) (range_with_len 0 n)

-- what the page of these coteries is: tables in words, or their figures as JSON
abbrev pub IsComparedAs : Form → List Candidate → List ℕ → Type 0
IsComparedAs Words candidates page = IsComparePage candidates page
IsComparedAs Json candidates page = IsCompareJson candidates page

-- The input is as many coteries as there are files. The page has their figures, and they are called as the
-- files.
pub record IsCompared (form : Form) (files : List (List ℕ)) (input page : List ℕ) : Type 0 where
  pub candidates : List Candidate
  pub parts : files_in (length files) input ≡ Ok (map (λ c. c.named) candidates)
  pub names : map (λ c. string_bytes c.name) candidates ≡ file_names (length candidates) files
  pub shows : IsComparedAs form candidates page
