use Rattle.std.proofs.Common.{[], ◌∷◌, sym, subst, arith}
use Rattle.std.specs.List.{All}
use Rattle.std.proofs.lemmas.List.Elements.{All-append, All-cons, All-nil}
use Rattle.robust.specs.Robust.{IsPlanned}
use Rattle.robust.proofs.search.shown_by.Goals as goal

pub loop-place-preserved : goal.loop-place-preserved
loop-place-preserved c = λ s capacities all.
    let failure = c.index-failures-place.result in
    let before : IsPlanned s capacities failure = subst (IsPlanned s capacities) (sym c.index-failures-place.is) (all c.loop-place.place failure (omega (arith, c.loop-place-test.true))) in
    let own = c.with_multipliers.ensures s capacities before in
    let last = All-cons (IsPlanned s capacities) c.with_multipliers.result [] own (All-nil (IsPlanned s capacities)) in
    subst (All (IsPlanned s capacities)) (sym c.in_ok-push.ensures.items)
    (All-append (IsPlanned s capacities) c.loop-place.with.items (c.with_multipliers.result ∷ []) (c.loop-place.invariant s capacities all) last)
