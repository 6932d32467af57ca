use Rattle.std.proofs.Common.{refl}
use Rattle.clap.specs.Words.{found_of, rows_of}
use Rattle.show_command_line.proofs.WordLemmas.{NamesNone-deal}
use Rattle.show_command_line.proofs.words.deal_of.Goals as goal

pub returns-in_default-clause-refused : goal.returns-in_default-clause-refused
returns-in_default-clause-refused c = NamesNone-deal (rows_of (found_of c.args.used.now)) (c.in_default.ensures.none refl)
