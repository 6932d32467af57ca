use Rattle.std.proofs.Common.{sym, subst}
use Rattle.commands.specs.Commands.{LetsAll}
use Rattle.qlock_cli.proofs.running.run_answer.Goals as goal

pub returns-in-Ok-write_record-clause-let_pass : goal.returns-in-Ok-write_record-clause-let_pass
returns-in-Ok-write_record-clause-let_pass g c = subst (LetsAll (g.G.Gate.lets c.args.gate.now)) (sym c.in-Run.is) c.in-Ok-record_of_run.ensures.let_pass
