use Rattle.std.proofs.Common.{sym, subst}
use Rattle.losses.specs.Regrets.{AreUsable, IsRegretBound, million}
use Rattle.losses.proofs.RegretLemmas.{IsRegretBound-regret_bound}
use Rattle.losses.proofs.bound.regret_bound.Goals as goal

pub returns-clause-bound : goal.returns-clause-bound
returns-clause-bound c =
    let usable : AreUsable c.args.weights.now.system c.args.limit c.args.multipliers.now c.args.failures.now =
    subst (λ s. AreUsable s c.args.limit c.args.multipliers.now c.args.failures.now) c.coterie.ensures.value (c.are_usable.ensures.0 c.if-not-are_usable.false) in
    subst (λ r. IsRegretBound (r, million) c.args.weights.now c.args.limit c.args.failures.now) (sym c.least_bound.ensures)
    (IsRegretBound-regret_bound c.args.weights.now c.args.limit c.args.multipliers.now c.args.failures.now c.coterie.ensures.weights
    usable.is_fraction.parts usable.some usable.each)
