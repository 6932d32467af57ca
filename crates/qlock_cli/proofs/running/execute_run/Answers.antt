use Rattle.std.proofs.Common.{subst}
use Rattle.commands.specs.Commands.{IsRefusedBy}
use Rattle.commands.proofs.ExecuteLemmas.{own_comes_of_known}
use Rattle.qlock_cli.proofs.running.execute_run.Goals as goal

pub returns-in-Err-run_answer-clause-refused : goal.returns-in-Err-run_answer-clause-refused
returns-in-Err-run_answer-clause-refused g c =
    own_comes_of_known c.args.command.now (g.R.Read.remaining c.args.reader.now.inner) c.in-Ok.input.items c.in-Err-run_answer.fault c.in-Ok.ensures.all
    c.in-Err-run_answer.ensures.own c.in-Ok.ensures.short
    (subst (λ input. IsRefusedBy c.args.command.now input c.in-Err-run_answer.fault) c.as_slice.ensures.value c.in-Err-run_answer.ensures.exact)
