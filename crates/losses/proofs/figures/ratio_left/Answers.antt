use Rattle.std.proofs.Common.{◌≡◌, ◌≤◌, ℕ, ap, sym, subst, ◌∙◌, arith, get_or, length, take}
use Rattle.std.proofs.lemmas.List.{get_or-take, length-take}
use Rattle.certificate.specs.Loads.{weight_on}
use Rattle.certificate.specs.Ratios.{greatest_ratio}
use Rattle.certificate.proofs.RatioLemmas.{greatest_ratio-same, greatest_ratio-small}
use Rattle.losses.specs.Losses.{each_left}
use Rattle.losses.proofs.LossLemmas.{weight_on-each_left}
use Rattle.losses.proofs.figures.ratio_left.Goals as goal
use Rattle.losses.proofs.figures.ratio_left.Goals.{After-greatest_ratio}

-- the weight that is left on a voter's quorums
abbrev left_on : After-greatest_ratio → ℕ → ℕ
left_on c i = weight_on i c.args.coterie.now.quorums (each_left c.args.down.now c.args.coterie.now.quorums c.args.weights.now)

-- the ratio is over the counts that were written
ratio-counts : (c : After-greatest_ratio) → c.greatest_ratio.result ≡ greatest_ratio c.args.coterie.now.voters c.args.capacities.now (left_on c)
ratio-counts c =
    let n = c.args.coterie.now.voters in
    let taken = take c.voters.result c.loop-voter.counts in
    let long : length taken ≡ n = omega (arith, length-take c.voters.result c.loop-voter.counts, c.loop-voter.invariant.0, c.voters.ensures.value, c.voters.ensures.coterie.few_voters) in
    c.greatest_ratio.ensures.ratio
    ∙ ap (λ m. greatest_ratio m c.args.capacities.now (λ i. get_or taken i 0)) long
    ∙ greatest_ratio-same n c.args.capacities.now (λ i. get_or taken i 0) (left_on c)
    (λ i lt. get_or-take c.voters.result c.loop-voter.counts i 0 (omega (arith, lt, c.voters.ensures.value))
    ∙ c.loop-voter.invariant.1 i (omega (arith, lt, c.loop-voter-test.false, c.voters-voter-end.ensures.value)))

pub returns-clause-ratio : goal.returns-clause-ratio
returns-clause-ratio c = ratio-counts (goal.at.returns-clause-ratio c).After-greatest_ratio

pub returns-clause-small : goal.returns-clause-small
returns-clause-small c =
    let small = greatest_ratio-small c.args.coterie.now.voters c.args.capacities.now (left_on (goal.at.returns-clause-small c).After-greatest_ratio) c.requires.capacities 1000000
    (λ i lt. weight_on-each_left i c.args.down.now c.args.coterie.now.quorums c.args.weights.now 1000000 c.requires.small) in
    subst (λ r. (r.0 ≤ 1000000) × (r.1 ≤ 1000)) (sym (ratio-counts (goal.at.returns-clause-small c).After-greatest_ratio)) small
