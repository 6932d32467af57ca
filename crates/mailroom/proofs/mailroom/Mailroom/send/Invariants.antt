use Rattle.std.proofs.Common.{◌≤◌, take}
use Rattle.std.specs.List.{count_by}
use Rattle.mailroom.specs.Losses.{is_stray, most_lost}
use Rattle.mailroom.proofs.mailroom.Mailroom.send.Given as goal

abbrev pub invariant-loop-message : goal.invariant-loop-message
invariant-loop-message g l = (l.losses.lost ≤ most_lost l.message-index) × (count_by (is_stray g.N.ClusterName.cluster.board) (take l.message-index l.messages) ≤ l.losses.lost) × (l.losses.starved ≤ l.losses.lost)
