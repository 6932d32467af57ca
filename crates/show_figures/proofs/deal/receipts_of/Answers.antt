use Rattle.std.proofs.Common.{ℕ, [], ◌∷◌, ◌++◌, List, ◌∙◌, ap₂, arith, sym}
use Rattle.std.proofs.lemmas.List.FromFn.{map-range_with_len_more}
use Rattle.dealer.specs.declared.receipt.Receipt.{Receipt}
use Rattle.show_figures.specs.Deals.{even_receipt}
use Rattle.show_figures.proofs.deal.receipts_of.Goals as goal

pub loop-ticket-preserved : goal.loop-ticket-preserved
loop-ticket-preserved c =
    let o = c.args.cycle.now in
    let t = c.loop-ticket.ticket in
    c.in_ok-push.ensures.items
    ∙ ap₂ (λ (xs : List Receipt) (q : ℕ). xs ++ (record { ticket = t; quorum = q }) ∷ []) c.loop-ticket.invariant c.quorum_at-quorum.ensures.value
    ∙ sym (map-range_with_len_more (even_receipt o) 0 t t (omega arith))
