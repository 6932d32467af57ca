use Rattle.std.proofs.Common.{◌≡◌, ap, ◌∙◌, length}
use Rattle.std.proofs.lemmas.List.FromFn.{length-map-range_with_len}
use Rattle.std.proofs.lemmas.Result.{IfOk-weaker}
use Rattle.dealer.specs.Accounts.{account_of}
use Rattle.dealer.specs.declared.account.Account.{Account}
use Rattle.replay.specs.Records.{tickets_of}
use Rattle.commands.proofs.answer.account_of_record.Goals as goal

pub returns-clause-one_each : goal.returns-clause-one_each
returns-clause-one_each c =
    IfOk-weaker c.check_record.result (λ a. a ≡ account_of c.args.plan.now (tickets_of c.args.run.now.draws.items)) (λ a. length a.voters ≡ c.args.plan.now.system.voters)
    (λ a same. ap (λ (x : Account). length x.voters) same ∙ length-map-range_with_len _ 0 c.args.plan.now.system.voters) c.check_record.ensures.account
