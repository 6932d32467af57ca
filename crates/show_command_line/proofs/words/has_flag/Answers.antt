use Rattle.clap.specs.Words.{found_of, rows_of}
use Rattle.show_command_line.proofs.WordLemmas.{HasFlag-none, HasFlag-of}
use Rattle.show_command_line.proofs.words.has_flag.Goals as goal

pub returns-in-Some : goal.returns-in-Some
returns-in-Some c =
    record { flag = HasFlag-of c.args.name.now (rows_of (found_of c.args.used.now)) c.in-Some.value.now c.is_set.result c.in-Some.ensures c.is_set.ensures.set c.is_set.ensures.unset }

pub returns-in-None : goal.returns-in-None
returns-in-None c = record { flag = HasFlag-none c.args.name.now (rows_of (found_of c.args.used.now)) c.in-None.ensures }
