use Rattle.std.proofs.Common.{map, string_bytes, take}
use Rattle.show_compare.specs.Compare.{HasGroups, Keeps}
use Rattle.show_compare.proofs.groups.add_losses.Given as goal

-- the groups of the losses so far are there, and what was there
abbrev pub invariant-loop-loss : goal.invariant-loop-loss
invariant-loop-loss l = record {
  added : HasGroups (map string_bytes l.groups.items) l.named (take l.loss-index l.losses);
  kept : Keeps (map string_bytes l.fn.groups.items) (map string_bytes l.groups.items);
}
