use Rattle.std.proofs.Common.{refl}
use Rattle.clap.specs.Words.{found_of, rows_of}
use Rattle.show_command_line.proofs.WordLemmas.{NamesNone-waiting}
use Rattle.show_command_line.proofs.words.waiting_of.Goals as goal

pub returns-in_default-clause-refused : goal.returns-in_default-clause-refused
returns-in_default-clause-refused c = NamesNone-waiting (rows_of (found_of c.args.used.now)) (λ w named. c.in_default.ensures.none refl w.clients named.1)

pub returns-in-Err-clause-refused : goal.returns-in-Err-clause-refused
returns-in-Err-clause-refused c =
    rw c.in-Err.ensures.refused.0 (NamesNone-waiting (rows_of (found_of c.args.used.now)) (λ w named. c.in-Err.ensures.refused.1 w.withdrawals named.2))
