use Rattle.std.proofs.Common.{◌≡◌, ℕ, length, take, slice_index}
use Rattle.numbers.specs.Counts.{times}
use Rattle.dealer.specs.Accounts.{quorums_named}
use Rattle.dealer.specs.Offices.{tickets_of}
use Rattle.dealer.proofs.office.counts_of_receipts.Given as goal

abbrev pub invariant-loop-receipt : goal.invariant-loop-receipt
invariant-loop-receipt l = record {
  long : length l.counts.items ≡ length l.cycle.system.quorums;
  counted : (j : ℕ) → slice_index l.counts.items j ≡ times j (quorums_named l.cycle (take l.receipt-index (tickets_of l.receipts)));
}
