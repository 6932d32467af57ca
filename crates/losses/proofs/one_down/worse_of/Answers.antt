use Rattle.std.proofs.Common.{◌+◌, sym, subst}
use Rattle.losses.specs.Worst.{IsWorstBelow, IsWorstLoad, Leaves}
use Rattle.losses.proofs.OneDownLemmas.{worse-load}
use Rattle.losses.proofs.one_down.worse_of.Goals as goal

pub returns-in-Load-first : goal.returns-in-Load-first
returns-in-Load-first c = λ w n h before own.
    subst (IsWorstLoad (n + 1) w) (sym c.greater_of.ensures)
    (worse-load w n c.in-Load-first.other c.in-Load.own h (subst (IsWorstBelow n w) c.in-Load-first.is before) (subst (Leaves w n) c.in-Load.is own))
