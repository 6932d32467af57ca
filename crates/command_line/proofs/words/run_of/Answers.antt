use Rattle.std.proofs.Common.{rules}
use Rattle.clap.specs.Words.{found_of, rows_of}
use Rattle.command_line.proofs.WordLemmas.{NamesNone-run}
use Rattle.command_line.proofs.words.run_of.Goals as goal
use Rattle.command_line.proofs.words.run_of.Goals.{in_default-via-in-Some+in-Some+in_default, in_default-via-in-Some+in_default, in_default-via-in_default}

pub returns-in_default-clause-refused : goal.returns-in_default-clause-refused
returns-in_default-clause-refused c = NamesNone-run (rows_of (found_of c.args.used.now)) (λ clients passes turns named. elim c.in_default.branch [
  | in_default-via-in-Some+in-Some+in_default w ↦ c.number_of-turns.ensures.none (search rules) turns named.3
  | in_default-via-in-Some+in_default w ↦ c.number_of-passes.ensures.none (search rules) passes named.2
  | in_default-via-in_default w ↦ c.number_of-clients.ensures.none (search rules) clients named.1
])
