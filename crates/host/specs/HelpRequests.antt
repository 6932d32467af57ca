-- Words that ask for a text.
use Rattle.std.specs.Prelude.{◌≡◌, ◌⊎◌}
use Rattle.clap.specs.Words.{kind_of}
use Rattle.clap.specs.declared.error.kind.ErrorKind.TheVariants.{DisplayHelp, DisplayVersion}
use Rattle.command_line.specs.declared.usage.Usage.{Usage}
use Rattle.command_line.specs.declared.usage.Usage.TheVariants.{Refused}

-- the words ask for help or the version
abbrev pub AsksForText : Usage → Type 0
AsksForText (Refused error) = (kind_of error ≡ DisplayHelp) ⊎ (kind_of error ≡ DisplayVersion)
AsksForText usage = ⊥
