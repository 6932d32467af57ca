use Rattle.std.proofs.Common.{ℕ, ◌<◌, List, ap, sym, ◌∙◌, subst}
use Rattle.std.specs.List.{All}
use Rattle.dealer.specs.Offices.{ClerkState}
use Rattle.dealer.proofs.ReceiptLemmas.{tickets_of-receipts}
use Rattle.dealer.proofs.office.Office.draw.Goals as goal

pub returns-clause-above : goal.returns-clause-above
returns-clause-above c =
    let hand = c.clerk.inside.seat.me.0 in
    let receipts = ap (λ (v : ClerkState). v.receipts) c.clerk.view_is in
    let drawn = tickets_of-receipts hand.cycle hand.drawn c.args.clerk.now.receipts (sym receipts ∙ c.clerk.invariant.receipts) in
    subst (λ (l : List ℕ). All (λ t. t < c.take_ticket-ticket.result) l) (sym drawn) c.take_ticket-ticket.ensures.above
