use Rattle.std.proofs.Common.{ℕ, ◌<◌, IfOk, subst}
use Rattle.qlock_cli.specs.Runs.{AreLet}
use Rattle.qlock_cli.proofs.run.record_of_run.Goals as goal

pub returns-in-Ok-clause-let_pass : goal.returns-in-Ok-clause-let_pass
returns-in-Ok-clause-let_pass g c =
    let lets = g.G.Gate.lets c.args.gate.now in
    subst (λ (n : ℕ). IfOk c.run_blank.result (λ _. 0 < c.args.passes → AreLet lets n)) c.in-Ok.ensures.clients c.run_blank.ensures.let_pass
