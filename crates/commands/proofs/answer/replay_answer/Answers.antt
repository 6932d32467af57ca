use Rattle.plan_inputs.specs.Inputs.{parts_of}
use Rattle.commands.proofs.CommandLemmas.{record_refused}
use Rattle.commands.proofs.answer.replay_answer.Goals as goal

pub returns-clause-exact : goal.returns-clause-exact
returns-clause-exact c =
    let refused = c.in-Err-replayed in
    rw c.from.ensures (record_refused c.args.input.now c.in-Ok.staged.1.now (parts_of c.in-Ok.staged.0) refused.fault c.in-Ok.ensures.exact refused.ensures.bad)
