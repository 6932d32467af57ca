use Rattle.std.proofs.Common.{◌≡◌, take}
use Rattle.std.specs.List.{All}
use Rattle.members.specs.Records.{IsDraw, all_draws}
use Rattle.members.proofs.close.collect_draws.Given as goal

abbrev pub invariant-loop-member : goal.invariant-loop-member
invariant-loop-member g l = (l.draws.items ≡ all_draws l.side (take l.member-index l.members)) × All (IsDraw g.N.ClusterName.cluster l.side) l.draws.items
