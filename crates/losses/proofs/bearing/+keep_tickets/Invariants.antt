use Rattle.losses.proofs.BearingLemmas.{AreKept}
use Rattle.losses.proofs.bearing.+keep_tickets.Given as goal

abbrev pub decreases-keep_tickets : goal.decreases-keep_tickets
decreases-keep_tickets l = l.more

abbrev pub invariant-loop-voter : goal.invariant-loop-voter
invariant-loop-voter l = AreKept l.weights l.down l.first l.voter l.more
