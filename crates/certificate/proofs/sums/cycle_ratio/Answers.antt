use Rattle.std.proofs.Common.{◌≡◌, ℕ, ◌≤◌, ap, sym, subst, ◌∙◌, arith, get_or, length, take}
use Rattle.std.proofs.lemmas.List.{get_or-take, length-take}
use Rattle.certificate.specs.Loads.{weight_on}
use Rattle.numbers.proofs.CountLemmas.{greatest_below-bound}
use Rattle.certificate.specs.Ratios.{greatest_ratio}
use Rattle.certificate.proofs.LoadLemmas.{weight_on-le}
use Rattle.certificate.proofs.RatioLemmas.{greatest_ratio-same, greatest_ratio-small}
use Rattle.certificate.proofs.UnitCapacities.{greatest_ratio-are_unit}
use Rattle.certificate.proofs.sums.cycle_ratio.Goals as goal
use Rattle.certificate.proofs.sums.cycle_ratio.Goals.{After-greatest_ratio}

pub returns-then-are_unit-clause-ratio : goal.returns-then-are_unit-clause-ratio
returns-then-are_unit-clause-ratio c =
    let is = greatest_ratio-are_unit c.args.coterie.now.voters c.args.capacities.now (λ i. weight_on i c.args.coterie.now.quorums c.args.weights.now)
    c.requires.capacities.one_each (sym c.are_unit.ensures ∙ c.if-are_unit.true) in
    ap (λ m. (m, 1)) c.requires.busiest ∙ sym is

pub returns-then-are_unit-clause-small : goal.returns-then-are_unit-clause-small
returns-then-are_unit-clause-small c =
    let count : ℕ → ℕ = λ i. weight_on i c.args.coterie.now.quorums c.args.weights.now in
    let most = greatest_below-bound c.args.coterie.now.voters count 1000000 (λ i lt. omega (arith, weight_on-le i c.args.coterie.now.quorums c.args.weights.now, c.requires.small)) in
    (omega (arith, most, c.requires.busiest), omega arith)

-- the ratio is over the counts that were written
ratio-counts : (c : After-greatest_ratio) → c.greatest_ratio.result
    ≡ greatest_ratio c.args.coterie.now.voters c.args.capacities.now (λ i. weight_on i c.args.coterie.now.quorums c.args.weights.now)
ratio-counts c =
    let n = c.args.coterie.now.voters in
    let taken = take c.voters.result c.loop-voter.counts in
    let long : length taken ≡ n = omega (arith, length-take c.voters.result c.loop-voter.counts, c.loop-voter.invariant.0, c.voters.ensures.value, c.voters.ensures.coterie.few_voters) in
    c.greatest_ratio.ensures.ratio
    ∙ ap (λ m. greatest_ratio m c.args.capacities.now (λ i. get_or taken i 0)) long
    ∙ greatest_ratio-same n c.args.capacities.now (λ i. get_or taken i 0) (λ i. weight_on i c.args.coterie.now.quorums c.args.weights.now)
    (λ i lt. get_or-take c.voters.result c.loop-voter.counts i 0 (omega (arith, lt, c.voters.ensures.value))
    ∙ c.loop-voter.invariant.1 i (omega (arith, lt, c.loop-voter-test.false, c.voters-voter-end.ensures.value)))

pub returns-clause-ratio : goal.returns-clause-ratio
returns-clause-ratio c = ratio-counts (goal.at.returns-clause-ratio c).After-greatest_ratio

pub returns-clause-small : goal.returns-clause-small
returns-clause-small c =
    let count : ℕ → ℕ = λ i. weight_on i c.args.coterie.now.quorums c.args.weights.now in
    let small = greatest_ratio-small c.args.coterie.now.voters c.args.capacities.now count c.requires.capacities 1000000
    (λ i lt. omega (arith, weight_on-le i c.args.coterie.now.quorums c.args.weights.now, c.requires.small)) in
    subst (λ r. (r.0 ≤ 1000000) × (r.1 ≤ 1000)) (sym (ratio-counts (goal.at.returns-clause-small c).After-greatest_ratio)) small
