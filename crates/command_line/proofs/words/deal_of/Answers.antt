use Rattle.std.proofs.Common.{refl}
use Rattle.clap.specs.Words.{found_of, rows_of}
use Rattle.command_line.proofs.WordLemmas.{NamesNone-deal}
use Rattle.command_line.proofs.words.deal_of.Goals as goal

pub returns-in-None-clause-refused : goal.returns-in-None-clause-refused
returns-in-None-clause-refused c = NamesNone-deal (rows_of (found_of c.args.used.now)) (c.in-None.ensures.none refl)
