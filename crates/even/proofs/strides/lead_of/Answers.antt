use Rattle.std.proofs.Common.{◌≡◌, ℕ, ◌*◌, ◌<◌, ◌≤◌, length, get_or, sym, ap, ◌∙◌, subst, arith}
use Rattle.std.specs.List.{All}
use Rattle.std.proofs.lemmas.List.FromFn.{length-map-range_with_len}
use Rattle.quorum_set.specs.Counts.{count_of}
use Rattle.numbers.specs.Counts.{times}
use Rattle.certificate.specs.Certificates.{cycle_count, cycle_len, cycle_ratio}
use Rattle.certificate.proofs.EvenCycles.{count_of-even}
use Rattle.certificate.proofs.RatioLemmas.{greatest_ratio-bound}
use Rattle.even.specs.EvenCycles.{even_quorum}
use Rattle.even.specs.Leads.{IsGreatestLead}
use Rattle.even.specs.Slacks.{slack_unit}
use Rattle.even.specs.Strides.{with_stride}
use Rattle.even.proofs.SlackLemmas.{whole_costs}
use Rattle.even.proofs.WindowLemmas.{All-window, times-round}
use Rattle.even.proofs.strides.lead_of.Goals as goal

pub greatest_lead-requires-clause-order : goal.greatest_lead-requires-clause-order
greatest_lead-requires-clause-order c =
    let w = c.args.weights.now in
    subst (λ s. All (λ j. j < length s.quorums) c.args.order.now) (sym c.coterie.ensures.value)
    (subst (λ list. All (λ j. j < length w.system.quorums) list) (sym c.requires.order) (All-window (with_stride w c.args.stride) 0 (cycle_len w) c.coterie.ensures.weights))

pub greatest_lead-requires-clause-some : goal.greatest_lead-requires-clause-some
greatest_lead-requires-clause-some c =
    let w = c.args.weights.now in
    omega (arith, ap length c.requires.order, length-map-range_with_len (even_quorum (with_stride w c.args.stride)) 0 (cycle_len w), c.coterie.ensures.weights.some_quorum)

pub greatest_lead-requires-clause-short : goal.greatest_lead-requires-clause-short
greatest_lead-requires-clause-short c =
    let w = c.args.weights.now in
    omega (arith, ap length c.requires.order, length-map-range_with_len (even_quorum (with_stride w c.args.stride)) 0 (cycle_len w), c.coterie.ensures.weights.few_quorums)

pub greatest_lead-requires-clause-whole : goal.greatest_lead-requires-clause-whole
greatest_lead-requires-clause-whole c =
    let w = c.args.weights.now in
    let o = with_stride w c.args.stride in
    let order = c.args.order.now in
    let i = c.args.voter in
    let is = c.coterie.ensures.weights in
    let long = ap length c.requires.order ∙ length-map-range_with_len (even_quorum o) 0 (cycle_len w) in
    let names : (j : ℕ) → times j order ≡ 1 * get_or w.quorum_weights j 0 = λ j.
    ap (times j) c.requires.order ∙ times-round o j is.some_quorum c.requires.fair in
    let counts = count_of-even w 1 order is.quorums names i in
    let share = greatest_ratio-bound w.system.voters w.capacities (cycle_count w) is.capacities i c.requires.voter in
    let costs = whole_costs (cycle_len w) (cycle_ratio w).0 (cycle_ratio w).1 (cycle_count w i) (get_or w.capacities i 0) share in
    let system = ap (λ s. count_of s i order) c.coterie.ensures.value in
    let same : count_of c.coterie.result.now i order ≡ cycle_count w i = omega (arith, system, counts) in
    subst (λ x. c.unit_of.result * x ≤ length order * c.share_of.result) (sym same)
    (subst (λ u. u * cycle_count w i ≤ length order * c.share_of.result) (sym c.unit_of.ensures.value)
    (subst (λ p. slack_unit w * cycle_count w i ≤ length order * p) (sym c.share_of.ensures)
    (subst (λ d. slack_unit w * cycle_count w i ≤ d * ((cycle_ratio w).0 * get_or w.capacities i 0)) (sym long) costs)))

pub returns : goal.returns
returns c =
    let w = c.args.weights.now in
    let order = c.args.order.now in
    let i = c.args.voter in
    let lead = c.greatest_lead.result in
    subst (λ s. IsGreatestLead s i (slack_unit w) ((cycle_ratio w).0 * get_or w.capacities i 0) order lead) c.coterie.ensures.value
    (subst (λ u. IsGreatestLead c.coterie.result.now i u ((cycle_ratio w).0 * get_or w.capacities i 0) order lead) c.unit_of.ensures.value
    (subst (λ p. IsGreatestLead c.coterie.result.now i c.unit_of.result p order lead) c.share_of.ensures c.greatest_lead.ensures))
