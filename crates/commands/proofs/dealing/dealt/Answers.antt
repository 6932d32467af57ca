use Rattle.std.proofs.Common.{◌≡◌, ap, sym, ◌∙◌, length, arith}
use Rattle.std.specs.List.{range_with_len}
use Rattle.std.proofs.lemmas.List.FromFn.{length-map-range_with_len}
use Rattle.std.proofs.lemmas.Result.{IfOk-weaker}
use Rattle.dealer.specs.Accounts.{account_of}
use Rattle.dealer.specs.declared.account.Account.{Account}
use Rattle.dealer.specs.Offices.{share_of, tickets_of}
use Rattle.commands.proofs.DealingLemmas.{account_of-dealt, share_of-after_draws}
use Rattle.commands.proofs.dealing.dealt.Goals as goal

pub closed-requires-clause-share : goal.closed-requires-clause-share
closed-requires-clause-share c =
    ap share_of c.in_ok-clerk.ensures ∙ share_of-after_draws c.in_ok-office.office.name c.args.count c.args.count (omega arith) ∙ sym c.in_ok-office.ensures.quota

pub returns-clause-account : goal.returns-clause-account
returns-clause-account c =
    let office = c.in_ok-office.office.name in
    let clerk = c.in_ok-clerk.clerk in
    IfOk-weaker c.closed.result (λ d. d.0 ≡ account_of office.cycle (tickets_of clerk.receipts)) (λ d. d.0 ≡ account_of c.args.plan (range_with_len 0 c.args.count))
    (λ d is. account_of-dealt office c.args.plan c.args.count clerk d.0 (c.in_ok-office.ensures.cycle ∙ c.in_ok-cycle.ensures.ok) c.in_ok-clerk.ensures is) c.closed.ensures.account

pub returns-clause-one_each : goal.returns-clause-one_each
returns-clause-one_each c =
    let office = c.in_ok-office.office.name in
    let clerk = c.in_ok-clerk.clerk in
    IfOk-weaker c.closed.result (λ d. d.0 ≡ account_of office.cycle (tickets_of clerk.receipts)) (λ d. length d.0.voters ≡ c.args.plan.system.voters)
    (λ d is.
    ap (λ (a : Account). length a.voters) (account_of-dealt office c.args.plan c.args.count clerk d.0 (c.in_ok-office.ensures.cycle ∙ c.in_ok-cycle.ensures.ok) c.in_ok-clerk.ensures is)
    ∙ length-map-range_with_len _ 0 c.args.plan.system.voters)
    c.closed.ensures.account
