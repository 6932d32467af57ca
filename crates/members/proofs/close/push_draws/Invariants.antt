use Rattle.std.proofs.Common.{◌≡◌, ◌++◌, map, take}
use Rattle.members.proofs.close.push_draws.Given as goal

abbrev pub invariant-loop-receipt : goal.invariant-loop-receipt
invariant-loop-receipt g l = l.draws.items ≡ l.fn.draws.items ++ map (λ r. (l.client, r.ticket, r.quorum)) (take l.receipt-index l.receipt-items)
