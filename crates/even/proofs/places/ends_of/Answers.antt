use Rattle.std.proofs.Common.{◌+◌, length, get_or, ap, arith}
use Rattle.numbers.proofs.SumLemmas.{sum_below-next}
use Rattle.quorum_set.specs.Coteries.{QuorumSystem}
use Rattle.even.proofs.PlaceLemmas.{ends-more, weight_to-fits}
use Rattle.even.proofs.places.ends_of.Goals as goal

pub overflow_add-end : goal.overflow_add-end
overflow_add-end c =
    let weights = c.args.weights.now.quorum_weights in
    let is = c.weight-end.ensures.weights in
    omega (
      arith,
      c.weight-end.ensures.value,
      c.loop-quorum.invariant.end_is,
      weight_to-fits weights c.loop-quorum.quorum
          (omega (arith, is.quorums, ap (λ (s : QuorumSystem). length s.quorums) c.coterie.ensures.value)),
      is.few_quorums,
    )

pub loop-quorum-preserved : goal.loop-quorum-preserved
loop-quorum-preserved c =
    let weights = c.args.weights.now.quorum_weights in
    let q = c.loop-quorum.quorum in
    let next = sum_below-next (λ k. get_or weights k 0) q in
    record {
      end_is = omega (arith, c.weight-end.ensures.value, c.loop-quorum.invariant.end_is, next);
      ends_are = ends-more weights c.loop-quorum.ends.items c.push.new.self.items q (c.loop-quorum.end + c.weight-end.result) c.loop-quorum.invariant.ends_are
          (omega (arith, c.weight-end.ensures.value, c.loop-quorum.invariant.end_is, next)) c.in_ok-push.ensures.items;
    }
