use Rattle.std.proofs.Common.{◌≡◌, Err, rules}
use Rattle.replay.specs.Records.{entries_of}
use Rattle.commands.proofs.CommandLemmas.{bad_text, unsound_text}
use Rattle.commands.proofs.answer.replayed.Goals as goal

pub returns-in_err-run-clause-bad : goal.returns-in_err-run-clause-bad
returns-in_err-run-clause-bad c =
    let is : c.from_residual.result ≡ Err c.in_err-run.field-0.0 = search rules in
    rw is (bad_text c.args.planned.now.plan c.args.text.now c.in_err-run.field-0.0 c.in_err-run.ensures.bad)

pub returns-in_err-account-clause-bad : goal.returns-in_err-account-clause-bad
returns-in_err-account-clause-bad c =
    let is : c.from_residual-in_err-account.result ≡ Err c.in_err-account.field-0.0 = search rules in
    rw is (
    unsound_text c.args.planned.now.plan c.args.text.now (entries_of c.in_ok-run.run') c.in_err-account.field-0.0 c.in_ok-run.ensures.written c.in_err-account.ensures.fault
    )
