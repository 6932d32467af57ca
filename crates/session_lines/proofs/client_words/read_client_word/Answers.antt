use Rattle.session_lines.proofs.ControlLemmas.{said_is_known}
use Rattle.session_lines.proofs.client_words.read_client_word.Goals as goal

pub returns-in-Some-clause-known : goal.returns-in-Some-clause-known
returns-in-Some-clause-known c u = said_is_known c.args.line.now c.in-Some.word c.in-Some.ensures.written.1 u
