use Rattle.std.proofs.Common.{sym, arith}
use Rattle.command_line.proofs.values.number_of.Goals as goal

pub returns-in-Ok-clause-some : goal.returns-in-Ok-clause-some
returns-in-Ok-clause-some c = ((c.in-Some.text.now, sym c.in-Some.ensures, c.in-Ok.ensures.value.0), omega arith, omega arith)
