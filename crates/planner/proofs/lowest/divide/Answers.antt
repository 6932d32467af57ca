use Rattle.std.proofs.Common.{ℕ, ◌<◌, ◌*◌, ◌≡◌, map, sym, subst, ap, ◌∙◌, arith}
use Rattle.planner.proofs.Divisors.{HaveNoCommonDivisor-sum, HaveNoCommonDivisor-divided, divided-times, sum-times-le, sum-times-some, times-one}
use Rattle.planner.proofs.lowest.divide.Goals as goal

pub returns-then-common-ne0-clause-lowest : goal.returns-then-common-ne0-clause-lowest
returns-then-common-ne0-clause-lowest c = λ some. HaveNoCommonDivisor-divided _ _ _ c.divisor_of-common.ensures c.if-common-ne0.true c.divide_by.ensures

pub returns-then-common-ne0-clause-times : goal.returns-then-common-ne0-clause-times
returns-then-common-ne0-clause-times c =
    let g = c.divisor_of-common.result in
    (g, omega (arith, c.if-common-ne0.true), divided-times _ g c.divisor_of-common.ensures.divides ∙ ap (map (λ weight. g * weight)) (sym c.divide_by.ensures))

pub returns-then-common-ne0-clause-some : goal.returns-then-common-ne0-clause-some
returns-then-common-ne0-clause-some c =
    let g = c.divisor_of-common.result in
    sum-times-some _ _ g (divided-times _ g c.divisor_of-common.ensures.divides ∙ ap (map (λ weight. g * weight)) (sym c.divide_by.ensures))

pub returns-then-common-ne0-clause-small : goal.returns-then-common-ne0-clause-small
returns-then-common-ne0-clause-small c =
    let g = c.divisor_of-common.result in
    sum-times-le _ _ g (divided-times _ g c.divisor_of-common.ensures.divides ∙ ap (map (λ weight. g * weight)) (sym c.divide_by.ensures)) (omega (arith, c.if-common-ne0.true))

pub returns-else-common-ne0-clause-lowest : goal.returns-else-common-ne0-clause-lowest
returns-else-common-ne0-clause-lowest c = λ some. HaveNoCommonDivisor-sum _ _ c.divisor_of-common.ensures c.if-common-ne0.false some

pub returns-else-common-ne0-clause-times : goal.returns-else-common-ne0-clause-times
returns-else-common-ne0-clause-times c = (1, omega arith, times-one _)
