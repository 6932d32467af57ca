use Rattle.std.proofs.Common.{◌<◌, length, sum, sym, ap, subst, ◌∙◌}
use Rattle.std.proofs.lemmas.List.{with_items_is}
use Rattle.planner.specs.Weights.{HaveNoCommonDivisor}
use Rattle.near.proofs.search.voters_of.Goals as goal

pub returns-clause-lowest : goal.returns-clause-lowest
returns-clause-lowest c =
    let same = with_items_is c.in_ok-voters.voters c.divide.new.weights (c.divide.ensures.length ∙ ap length c.deref_mut.ensures.value ∙ sym c.in_ok-voters.voters.ok.0) in
    let some = subst (λ xs. 0 < sum xs) (sym c.deref_mut.ensures.value) c.in_ok-voters.ensures.some in
    subst HaveNoCommonDivisor (sym same) (c.divide.ensures.lowest (c.divide.ensures.some some))
