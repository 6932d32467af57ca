use Rattle.std.proofs.Common.{◌≡◌, ◌+◌, ◌≤◌, take}
use Rattle.std.specs.List.{count_by}
use Rattle.mailroom.specs.Losses.{is_stray_reply}
use Rattle.mailroom.proofs.mailroom.Mailroom.post_each.Given as goal

abbrev pub invariant-loop-message : goal.invariant-loop-message
invariant-loop-message g l = (l.posted + l.losses.lost ≡ l.message-index) × (count_by (is_stray_reply g.N.ClusterName.cluster.board) (take l.message-index l.outbox.messages) + l.losses.starved ≤ l.losses.lost)
