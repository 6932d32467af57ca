use Rattle.std.proofs.Common.{refl}
use Rattle.clap.specs.Words.{found_of, rows_of}
use Rattle.show_command_line.proofs.WordLemmas.{MayHaveNumber-none}
use Rattle.show_command_line.proofs.words.number_if_given.Goals as goal

pub returns-in-None-number_of-clause-refused : goal.returns-in-None-number_of-clause-refused
returns-in-None-number_of-clause-refused c =
    (refl, MayHaveNumber-none c.args.name.now c.args.least c.args.most (rows_of (found_of c.args.used.now)) c.in-Some.field-0.now c.in-Some.ensures (c.in-None-number_of.ensures.none refl))
