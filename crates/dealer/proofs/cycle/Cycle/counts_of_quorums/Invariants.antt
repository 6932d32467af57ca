use Rattle.std.proofs.Common.{◌≡◌, ℕ, length, take, slice_index}
use Rattle.numbers.specs.Counts.{times}
use Rattle.dealer.specs.Accounts.{quorums_named}
use Rattle.dealer.proofs.cycle.Cycle.counts_of_quorums.Given as goal

abbrev pub invariant-loop-ticket : goal.invariant-loop-ticket
invariant-loop-ticket l = record {
  long : length l.counts.items ≡ length l.self.system.quorums;
  counted : (j : ℕ) → slice_index l.counts.items j ≡ times j (quorums_named l.self (take l.ticket-index l.tickets));
}
