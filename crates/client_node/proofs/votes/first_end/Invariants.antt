use Rattle.std.proofs.Common.{◌≡◌, ◌≤◌, drop, Some}
use Rattle.client_node.specs.Locks.{earlier, first_end}
use Rattle.client_node.proofs.votes.first_end.Given as goal

abbrev pub invariant-loop-voter : goal.invariant-loop-voter
invariant-loop-voter l = record {
  whole :
      earlier (Some l.first) (first_end l.span l.request l.votes l.leases (drop l.voter-index l.voters))
      ≡ first_end l.span l.request l.votes l.leases l.voters;
  fits : l.first ≤ 18446744073709551615;
}
