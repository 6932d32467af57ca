use Rattle.std.proofs.Common.{ℕ, ◌+◌, ◌/◌, ◌%◌, min, ap, ◌∙◌, arith, rules}
use Rattle.quorum_set.specs.Coteries.{QuorumSystem}
use Rattle.even.specs.Strides.{with_stride}
use Rattle.even.proofs.SlackLemmas.{IsExcess-all, IsExcessBelow-more}
use Rattle.even.proofs.strides.excess_of.Goals as goal

pub loop-voter-preserved : goal.loop-voter-preserved
loop-voter-preserved c =
    let voter = c.loop-voter.voter in
    let lead = c.lead_of-lead.result in
    let is = c.coterie.ensures.weights in
    let system = ap (λ (s : QuorumSystem). s.voters) c.coterie.ensures.value in
    let capacity = is.capacities.in_range voter 0 (omega (arith, is.capacities.one_each, system, c.voters-voter-end.ensures.value)) in
    IsExcessBelow-more (with_stride c.args.weights.now c.args.stride) c.args.order.now voter c.loop-voter.excess lead c.div_ceil-rounded.result c.max-excess.result
    is.some_quorum c.requires.order (omega (arith, capacity.0)) c.loop-voter.invariant c.lead_of-lead.ensures
    (c.div_ceil-rounded.ensures ∙ ap (λ (k : ℕ). lead / k + min 1 (lead % k)) c.capacity.ensures.value)
    (search rules) (search rules) (λ f a b. search rules)

pub returns : goal.returns
returns c =
    let system = ap (λ (s : QuorumSystem). s.voters) c.coterie.ensures.value in
    IsExcess-all (with_stride c.args.weights.now c.args.stride) c.loop-voter.voter c.loop-voter.excess (omega (arith, system, c.voters-voter-end.ensures.value)) c.loop-voter.invariant
