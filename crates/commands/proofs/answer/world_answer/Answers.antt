use Rattle.plan_inputs.specs.Inputs.{parts_of}
use Rattle.commands.proofs.CommandLemmas.{script_refused}
use Rattle.commands.proofs.answer.world_answer.Goals as goal

pub returns-clause-exact : goal.returns-clause-exact
returns-clause-exact c =
    rw c.from.ensures (script_refused c.args.input.now c.in-Ok.staged.1.now (parts_of c.in-Ok.staged.0) c.in-Err-run_script.fault c.in-Ok.ensures.exact c.in-Err-run_script.ensures.bad)
