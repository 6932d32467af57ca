use Rattle.std.proofs.Common.{◌≡◌, ◌*◌, map, arith}
use Rattle.std.proofs.lemmas.Result.{IfOk-weaker}
use Rattle.certificate.specs.Certificates.{busiest_count}
use Rattle.dealer.specs.Accounts.{account_of, ratio_of_cycles, IsLeastBusiest, IsLeastRatio}
use Rattle.dealer.proofs.AccountLemmas.{counts-fit, counts-long}
use Rattle.dealer.proofs.WholeAccounts.{whole-even, whole-least, whole-least_ratio, whole-ratio, whole-shares}
use Rattle.dealer.proofs.cycle.Cycle.account.Goals as goal

pub account_of_counts-requires-clause-lengths : goal.account_of_counts-requires-clause-lengths
account_of_counts-requires-clause-lengths c =
    counts-long c.args.self.now c.args.tickets.now c.in_ok-quorums.quorums.items c.in_ok-quorums.ensures

pub account_of_counts-requires-clause-fits : goal.account_of_counts-requires-clause-fits
account_of_counts-requires-clause-fits c =
    omega (arith, counts-fit c.args.self.now c.args.tickets.now c.in_ok-quorums.quorums.items c.in_ok-quorums.ensures)

pub returns-clause-value : goal.returns-clause-value
returns-clause-value c = c.account_of_counts.ensures.value c.args.tickets.now (omega arith) c.in_ok-quorums.ensures

pub returns-clause-shares : goal.returns-clause-shares
returns-clause-shares c = λ k whole.
    let w = c.args.self.now in
    let tickets = c.args.tickets.now in
    IfOk-weaker c.account_of_counts.result (λ a. a ≡ account_of w tickets) (λ a. a.quorums ≡ map (λ weight. k * weight) w.quorum_weights)
    (whole-shares w k tickets c.account_of_counts.ensures.certificate whole)
    (c.account_of_counts.ensures.value tickets (omega arith) c.in_ok-quorums.ensures)

pub returns-clause-even : goal.returns-clause-even
returns-clause-even c = λ k whole.
    let w = c.args.self.now in
    let tickets = c.args.tickets.now in
    IfOk-weaker c.account_of_counts.result (λ a. a ≡ account_of w tickets) (λ a. a.busiest ≡ k * busiest_count w)
    (whole-even w k tickets c.account_of_counts.ensures.certificate whole)
    (c.account_of_counts.ensures.value tickets (omega arith) c.in_ok-quorums.ensures)

pub returns-clause-ratio : goal.returns-clause-ratio
returns-clause-ratio c = λ k whole.
    let w = c.args.self.now in
    let tickets = c.args.tickets.now in
    IfOk-weaker c.account_of_counts.result (λ a. a ≡ account_of w tickets) (λ a. a.ratio ≡ ratio_of_cycles w k)
    (whole-ratio w k tickets c.account_of_counts.ensures.certificate whole)
    (c.account_of_counts.ensures.value tickets (omega arith) c.in_ok-quorums.ensures)

pub returns-clause-least_ratio : goal.returns-clause-least_ratio
returns-clause-least_ratio c = λ k whole.
    let w = c.args.self.now in
    let tickets = c.args.tickets.now in
    IfOk-weaker c.account_of_counts.result (λ a. a ≡ account_of w tickets) (λ a. IsLeastRatio w a.drawn a.ratio)
    (λ a same. whole-least_ratio w k tickets c.account_of_counts.ensures.certificate whole a same c.account_of_counts.ensures.optimal)
    (c.account_of_counts.ensures.value tickets (omega arith) c.in_ok-quorums.ensures)

pub returns-clause-least : goal.returns-clause-least
returns-clause-least c = λ k units whole.
    let w = c.args.self.now in
    let tickets = c.args.tickets.now in
    IfOk-weaker c.account_of_counts.result (λ a. a ≡ account_of w tickets) (λ a. IsLeastBusiest w a.drawn a.busiest)
    (λ a same. whole-least w k tickets c.account_of_counts.ensures.certificate whole a same c.account_of_counts.ensures.optimal units)
    (c.account_of_counts.ensures.value tickets (omega arith) c.in_ok-quorums.ensures)
