-- Which word of a refused command its fault is about.
use Rattle.std.specs.Prelude.{◌≡◌, ℕ, Some, option_map, slice_get, string_bytes}
use Rattle.commands.specs.declared.fault.Fault.{Fault}
use Rattle.commands.specs.declared.fault.Fault.TheVariants.{Input, UnknownVoter}
use Rattle.show_command_line.specs.declared.command.ShowCommand.{ShowCommand}
use Rattle.show_command_line.specs.declared.command.ShowCommand.TheVariants.{Compare, Without}
use Rattle.show_cli.specs.declared.at_fault.WordAtFault.{WordAtFault}
use Rattle.show_cli.specs.declared.at_fault.WordAtFault.TheVariants.{File, Name}

-- the fault is about this word: the name at its place, or one of the files
abbrev pub IsAbout : ShowCommand → Fault → WordAtFault → Type 0
IsAbout (Without names) (UnknownVoter place) (Name word) = option_map string_bytes (slice_get names.items place) ≡ Some word.now
IsAbout (Compare files form) (Input fault) (File word) = (place : ℕ) × (option_map string_bytes (slice_get files.items place) ≡ Some word.now)
IsAbout command fault word = ⊥
