use Rattle.std.proofs.Common.{◌≡◌, ◌<◌, ◌++◌, drop, eqb, length, ◌≤◌}
use Rattle.std.specs.List.{AllByRecursion, IsDistinct}
use Rattle.requester.specs.Steps.{relinquish_inquired}
use Rattle.requester.proofs.state.ClientState.relinquish_inquired.Given as goal

abbrev pub invariant-loop-i : goal.invariant-loop-i
invariant-loop-i l = record {
  same : l.self.quorum ≡ l.fn.self.quorum;
  small : AllByRecursion (λ v. v < 64) (drop l.i l.fn.self.quorum.items);
  apart : IsDistinct eqb (drop l.i l.fn.self.quorum.items);
  state : (relinquish_inquired l.self (drop l.i l.fn.self.quorum.items)).state ≡ (relinquish_inquired l.fn.self l.fn.self.quorum.items).state;
  out : l.out.items ++ (relinquish_inquired l.self (drop l.i l.fn.self.quorum.items)).out ≡ (relinquish_inquired l.fn.self l.fn.self.quorum.items).out;
  len : length l.out.items ≤ l.i;
}
