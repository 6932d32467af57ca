use Rattle.std.proofs.Common.{arith}
use Rattle.std.proofs.lemmas.List.{length-map}
use Rattle.dealer.specs.declared.receipt.Receipt.{Receipt}
use Rattle.dealer.specs.Offices.{tickets_of}
use Rattle.dealer.proofs.AccountLemmas.{counts-fit, counts-long}
use Rattle.dealer.proofs.office.account_of_all.Goals as goal

pub account_of_counts-requires-clause-lengths : goal.account_of_counts-requires-clause-lengths
account_of_counts-requires-clause-lengths c =
    counts-long c.args.cycle.now (tickets_of c.args.receipts.now) c.in_ok-quorums.quorums.items c.in_ok-quorums.ensures

pub account_of_counts-requires-clause-fits : goal.account_of_counts-requires-clause-fits
account_of_counts-requires-clause-fits c =
    let receipts = c.args.receipts.now in
    let fit = counts-fit c.args.cycle.now (tickets_of receipts) c.in_ok-quorums.quorums.items c.in_ok-quorums.ensures in
    omega (arith, fit, length-map receipts (λ (r : Receipt). r.ticket))
