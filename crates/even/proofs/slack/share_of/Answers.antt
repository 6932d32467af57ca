use Rattle.std.proofs.Common.{ℕ, ◌*◌, ap, ap₂, arith}
use Rattle.std.proofs.lemmas.Nat.{mul-le}
use Rattle.certificate.proofs.RatioLemmas.{cycle_ratio-small}
use Rattle.even.proofs.slack.share_of.Goals as goal

pub overflow_mul-result : goal.overflow_mul-result
overflow_mul-result c =
    let is = c.ratio.ensures.weights in
    let small = cycle_ratio-small c.args.weights.now is in
    let capacity = is.capacities.in_range c.args.voter 0 (omega (arith, is.capacities.one_each, c.requires)) in
    let product = mul-le c.ratio.result.0 c.capacity.result 1000000 1000 (omega (arith, ap (λ r. r.0) c.ratio.ensures.value, small.0)) (omega (arith, c.capacity.ensures.value, capacity.1)) in
    omega (arith, product)

pub returns : goal.returns
returns c = ap₂ (λ (x y : ℕ). x * y) (ap (λ r. r.0) c.ratio.ensures.value) c.capacity.ensures.value
