use Rattle.std.proofs.Common.{◌≡◌, map, take}
use Rattle.std.specs.List.{All}
use Rattle.show_figures.specs.Comparisons.{IsLoss}
use Rattle.show_figures.proofs.comparisons.losses_of.Given as goal

-- the losses of the groups so far
abbrev pub invariant-loop-group : goal.invariant-loop-group
invariant-loop-group l = record {
  groups : map (λ loss. loss.group) l.losses.items ≡ take l.group-index l.group-items;
  losses : All (IsLoss l.named) l.losses.items;
}
