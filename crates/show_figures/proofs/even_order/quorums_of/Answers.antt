use Rattle.std.proofs.Common.{ℕ, ◌<◌, [], ◌∷◌, ◌++◌, List, ◌∙◌, ap₂, length, arith, sym}
use Rattle.std.proofs.lemmas.List.Elements.{All-push, All-same}
use Rattle.std.proofs.lemmas.List.FromFn.{map-range_with_len_more}
use Rattle.even.specs.EvenCycles.{even_quorum}
use Rattle.show_figures.proofs.even_order.quorums_of.Goals as goal

pub loop-ticket-preserved : goal.loop-ticket-preserved
loop-ticket-preserved c =
    let o = c.args.cycle.now in
    let t = c.loop-ticket.ticket in
    let before = c.loop-ticket.quorums.items in
    let there : ℕ → Type 0 = λ j. j < length o.weights.system.quorums in
    record {
      so_far = c.in_ok-push.ensures.items ∙ ap₂ (λ (xs : List ℕ) (x : ℕ). xs ++ x ∷ []) c.loop-ticket.invariant.so_far c.quorum_at.ensures.value
          ∙ sym (map-range_with_len_more (even_quorum o) 0 t t (omega arith));
      in_range = All-same there _ (before ++ c.quorum_at.result ∷ []) c.in_ok-push.ensures.items
          (All-push there before c.quorum_at.result c.loop-ticket.invariant.in_range c.quorum_at.ensures.in_range);
    }
