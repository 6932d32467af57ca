use Rattle.std.proofs.Common.{◌+◌, ◌*◌, get_or, arith}
use Rattle.std.proofs.lemmas.List.Sums.{sum_by-take-le}
use Rattle.certificate.proofs.LoadLemmas.{capacity_total-more, sum_below-more}
use Rattle.certificate.proofs.loads.capacity_total.Goals as goal

pub overflow_mul-total : goal.overflow_mul-total
overflow_mul-total c =
    let weights = c.args.weights.now in
    let i = c.loop-i.i in
    omega (arith, capacity_total-more weights c.args.capacities.now i c.loop-i.total (omega arith) c.requires.capacities c.loop-i.invariant.1, sum_by-take-le (λ y. y) weights (i + 1))

pub overflow_add-total : goal.overflow_add-total
overflow_add-total c =
    let weights = c.args.weights.now in
    let i = c.loop-i.i in
    omega (arith, capacity_total-more weights c.args.capacities.now i c.loop-i.total (omega arith) c.requires.capacities c.loop-i.invariant.1, sum_by-take-le (λ y. y) weights (i + 1))

pub loop-i-preserved : goal.loop-i-preserved
loop-i-preserved c =
    let weights = c.args.weights.now in
    let capacities = c.args.capacities.now in
    let i = c.loop-i.i in (
      sum_below-more (λ k. get_or weights k 0 * get_or capacities k 0) i c.loop-i.total c.loop-i.invariant.0,
      capacity_total-more weights capacities i c.loop-i.total (omega arith) c.requires.capacities c.loop-i.invariant.1,
    )

pub returns-clause-small : goal.returns-clause-small
returns-clause-small c = omega (arith, c.loop-i.invariant.1, sum_by-take-le (λ y. y) c.args.weights.now c.loop-i.i)
