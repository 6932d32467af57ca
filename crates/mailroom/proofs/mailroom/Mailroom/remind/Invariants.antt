use Rattle.std.proofs.Common.{◌≤◌, nat_le, take}
use Rattle.std.specs.List.{count_by}
use Rattle.mailroom.specs.Losses.{most_lost}
use Rattle.mailroom.proofs.mailroom.Mailroom.remind.Given as goal

abbrev pub invariant-loop-voter : goal.invariant-loop-voter
invariant-loop-voter g l = (l.losses.lost ≤ most_lost l.voter-index) × (count_by (nat_le g.N.ClusterName.cluster.board.voters) (take l.voter-index l.voters) ≤ l.losses.lost) × (l.losses.starved ≤ l.losses.lost)
