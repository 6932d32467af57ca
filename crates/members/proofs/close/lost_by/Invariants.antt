use Rattle.std.proofs.Common.{◌≡◌, ◌-◌, ◌^◌, min, sum_by, take}
use Rattle.members.proofs.close.lost_by.Given as goal

abbrev pub invariant-loop-member : goal.invariant-loop-member
invariant-loop-member g l = l.lost ≡ min (sum_by (λ m. m.lost) (take l.member-index l.members)) (2 ^ 64 - 1)
