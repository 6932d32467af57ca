use Rattle.std.proofs.Common.{◌≡◌, drop}
use Rattle.std.specs.List.{list_any}
use Rattle.client_node.specs.Locks.{is_voter_doubtful}
use Rattle.client_node.proofs.votes.any_doubtful.Given as goal

abbrev pub invariant-loop-voter : goal.invariant-loop-voter
invariant-loop-voter l =
    list_any (is_voter_doubtful l.span l.request l.now l.votes l.leases l.since) (drop l.voter-index l.voters)
    ≡ list_any (is_voter_doubtful l.span l.request l.now l.votes l.leases l.since) l.voters
