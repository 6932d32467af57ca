use Rattle.std.proofs.Common.{◌*◌, ◌%◌, ◌<◌, get_or, sum, sym, ap, ◌∙◌, subst, arith}
use Rattle.std.specs.List.Sorted.{IsNonDecreasing}
use Rattle.std.proofs.Math.Nat.{mod-lt}
use Rattle.even.specs.EvenCycles.{places_of}
use Rattle.even.specs.Strides.{with_stride}
use Rattle.even.proofs.PlaceLemmas.{IsNonDecreasing-ends_of}
use Rattle.even.proofs.WindowLemmas.{window-more}
use Rattle.even.proofs.strides.order_of.Goals as goal

pub quorum_of_place-requires : goal.quorum_of_place-requires
quorum_of_place-requires c = subst IsNonDecreasing (sym c.requires.ends) (IsNonDecreasing-ends_of c.args.weights.now.quorum_weights)

pub loop-ticket-preserved : goal.loop-ticket-preserved
loop-ticket-preserved c =
    let weights = c.args.weights.now.quorum_weights in
    let ticket = c.loop-ticket.ticket in
    let long = c.cycle_len-len.ensures.value in
    let some = c.cycle_len-len.ensures.weights.some_quorum in
    let inside : ticket * c.args.stride % c.cycle_len-len.result < sum weights =
    omega (arith, mod-lt (ticket * c.args.stride) {m = c.cycle_len-len.result} (omega (arith, long, some)), long) in
    window-more (with_stride c.args.weights.now c.args.stride) c.loop-ticket.order.items c.push.new.self.items ticket c.quorum_of_place.result c.loop-ticket.invariant
    (c.quorum_of_place.ensures weights c.requires.ends inside ∙ ap (λ d. get_or (places_of weights) (ticket * c.args.stride % d) 0) long)
    c.in_ok-push.ensures.items
