use Rattle.std.proofs.Common.{◌≡◌, drop}
use Rattle.show_compare.specs.Compare.{left_text}
use Rattle.show_compare.proofs.groups.left_cell.Given as goal

-- what the losses from here on leave is what all leave
abbrev pub invariant-loop-loss : goal.invariant-loop-loss
invariant-loop-loss l = left_text l.is_throughput l.named l.group (drop l.loss-index l.losses) ≡ left_text l.is_throughput l.named l.group l.losses
