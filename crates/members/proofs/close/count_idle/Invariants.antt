use Rattle.std.proofs.Common.{◌≡◌, take}
use Rattle.members.specs.Records.{idle_count}
use Rattle.members.proofs.close.count_idle.Given as goal

abbrev pub invariant-loop-member : goal.invariant-loop-member
invariant-loop-member g l = l.idle ≡ idle_count (take l.member-index l.members)
