use Rattle.std.proofs.Common.{length, sym, ap, subst, ◌∙◌}
use Rattle.std.proofs.lemmas.List.{with_items_is}
use Rattle.planner.specs.Causes.{CanCome}
use Rattle.planner.proofs.CauseLemmas.{CanCome-check}
use Rattle.planner.proofs.Divisors.{HaveNoCommonDivisor-divided_plan}
use Rattle.planner.proofs.search.checked.Goals as goal

pub returns-in-Ok-clause-lowest : goal.returns-in-Ok-clause-lowest
returns-in-Ok-clause-lowest c =
    let quorums = with_items_is c.args.quorum_weights c.divide.new.weights (c.divide.ensures.length ∙ ap length c.deref_mut.ensures.value ∙ sym c.args.quorum_weights.ok.0) in
    let voters = with_items_is c.args.voter_weights c.divide-2.new.weights (c.divide-2.ensures.length ∙ ap length c.deref_mut-2.ensures.value ∙ sym c.args.voter_weights.ok.0) in
    HaveNoCommonDivisor-divided_plan c.in-Ok.plan _ c.divide.new.weights c.divide-2.new.weights c.in-Ok.ensures.exact.1 quorums voters c.in-Ok.ensures.certificate
    c.divide.ensures.lowest c.divide-2.ensures.lowest

pub returns-in-Err-clause-unreachable : goal.returns-in-Err-clause-unreachable
returns-in-Err-clause-unreachable c =
    let some_quorums = c.divide.ensures.length ∙ ap length c.deref_mut.ensures.value ∙ sym c.args.quorum_weights.ok.0 in
    let some_voters = c.divide-2.ensures.length ∙ ap length c.deref_mut-2.ensures.value ∙ sym c.args.voter_weights.ok.0 in
    let quorums = ap length (with_items_is c.args.quorum_weights c.divide.new.weights some_quorums) ∙ some_quorums ∙ c.requires.quorums in
    let voters = ap length (with_items_is c.args.voter_weights c.divide-2.new.weights some_voters) ∙ some_voters ∙ c.requires.voters in
    subst (CanCome c.args.capacities.now) (sym c.of_check.ensures) (CanCome-check _ c.in-Err.fault quorums voters c.in-Err.ensures.exact)
