use Rattle.std.proofs.Common.{sym, subst}
use Rattle.std.specs.List.{All}
use Rattle.robust.specs.Robust.{IsPlanned}
use Rattle.robust.proofs.search.note.Goals as goal
use Rattle.robust.proofs.search.note.Goals.{in-Some, in_default}

pub returns-then-low-shown : goal.returns-then-low-shown
returns-then-low-shown c = λ s capacities all.
    c.in_ok-failures.ensures s capacities (subst (All (IsPlanned s capacities)) (sym c.deref-2.ensures.value)
    (elim c.match-regret_of.branch as (λ _. All (IsPlanned s capacities) c.match-regret_of.shown.failures.items) [
      | in-Some w ↦ subst (λ x. All (IsPlanned s capacities) x.failures.items) (sym w.shown-is) all
      | in_default w ↦ subst (λ x. All (IsPlanned s capacities) x.failures.items) (sym w.shown-is) all
    ]))
