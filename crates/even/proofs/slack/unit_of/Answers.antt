use Rattle.std.proofs.Common.{ℕ, ◌*◌, ◌≤◌, ap, ap₂, arith}
use Rattle.std.proofs.lemmas.Nat.{mul-le}
use Rattle.certificate.proofs.RatioLemmas.{cycle_ratio-small}
use Rattle.even.proofs.slack.unit_of.Goals.{After-ratio}
use Rattle.even.proofs.slack.unit_of.Goals as goal

unit_small : (c : After-ratio) → c.cycle_len.result * c.ratio.result.1 ≤ 1000000000
unit_small c =
    let is = c.ratio.ensures.weights in
    let small = cycle_ratio-small c.args.weights.now is in
    mul-le c.cycle_len.result c.ratio.result.1 1000000 1000 (omega (arith, c.cycle_len.ensures.value, is.few_quorums)) (omega (arith, ap (λ r. r.1) c.ratio.ensures.value, small.1))

pub overflow_mul-result : goal.overflow_mul-result
overflow_mul-result c = omega (arith, unit_small (goal.at.overflow_mul-result c).After-ratio)

pub returns-clause-value : goal.returns-clause-value
returns-clause-value c = ap₂ (λ (x y : ℕ). x * y) c.cycle_len.ensures.value (ap (λ r. r.1) c.ratio.ensures.value)

pub returns-clause-small : goal.returns-clause-small
returns-clause-small c = unit_small (goal.at.returns-clause-small c).After-ratio
