use Rattle.std.proofs.Common.{◌≡◌, ◌*◌, ◌%◌, ◌<◌, length, sum, sym, ap, ◌∙◌, subst, refl, arith}
use Rattle.std.specs.List.Sorted.{IsNonDecreasing}
use Rattle.std.proofs.Math.Nat.{mod-lt}
use Rattle.even.specs.EvenCycles.{EvenOrder, even_quorum}
use Rattle.even.specs.Strides.{with_stride}
use Rattle.even.proofs.PlaceLemmas.{IsNonDecreasing-ends_of}
use Rattle.even.proofs.WindowLemmas.{even_quorum-lt, even_quorum-place}
use Rattle.even.proofs.cycle.EvenCycle.quorum_at.Goals.{After-quorum_of_place}
use Rattle.even.proofs.cycle.EvenCycle.quorum_at.Goals as goal

pub quorum_of_place-requires : goal.quorum_of_place-requires
quorum_of_place-requires c =
    subst IsNonDecreasing (sym (c.deref.ensures.value ∙ c.self.invariant.sums)) (IsNonDecreasing-ends_of c.self.inside.weights.quorum_weights)

-- the search is at the ticket's place
quorum_found : (c : After-quorum_of_place) → c.quorum_of_place.result ≡ even_quorum (with_stride c.self.inside.weights c.self.inside.stride) c.args.ticket
quorum_found c =
    let weights = c.self.inside.weights.quorum_weights in
    let len = c.cycle_len-len.result in
    let long = c.cycle_len-len.ensures.value in
    let place = c.args.ticket % len * c.self.inside.stride in
    let inside : place % len < sum weights = omega (arith, mod-lt place {m = len} (omega (arith, long, c.self.invariant.sizes.some_quorum)), long) in
    c.quorum_of_place.ensures weights (c.deref.ensures.value ∙ c.self.invariant.sums) inside
    ∙ even_quorum-place (with_stride c.self.inside.weights c.self.inside.stride) c.args.ticket len c.self.inside.stride long refl

pub returns-clause-value : goal.returns-clause-value
returns-clause-value c =
    quorum_found (goal.at.returns-clause-value c).After-quorum_of_place ∙ ap (λ (o : EvenOrder). even_quorum o c.args.ticket) c.self.view_is

pub returns-clause-in_range : goal.returns-clause-in_range
returns-clause-in_range c =
    let o = with_stride c.self.inside.weights c.self.inside.stride in
    let found = quorum_found (goal.at.returns-clause-in_range c).After-quorum_of_place in
    omega (arith, found, even_quorum-lt o c.args.ticket c.self.invariant.sizes, ap (λ (o : EvenOrder). length o.weights.system.quorums) c.self.view_is)
