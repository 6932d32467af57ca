use Rattle.std.proofs.Common.{◌≡◌, ◌+◌, length, ap, sym, ◌∙◌, arith}
use Rattle.std.proofs.lemmas.List.{length-map}
use Rattle.dealer.specs.Offices.{OfficeName, ClerkState, receipt_of}
use Rattle.dealer.specs.declared.tickets.Sheet.{Sheet}
use Rattle.dealer.proofs.ReceiptLemmas.{AreAllBelow-receipts, AreByCycle-map}
use Rattle.dealer.proofs.office.Office.end.Goals as goal

-- the last clerk has all tickets
pub returns-clause-tickets : goal.returns-clause-tickets
returns-clause-tickets c =
    let hand = c.clerk.inside.seat.me.0 in
    let receipts = ap (λ (v : ClerkState). v.receipts) c.clerk.view_is in
    let are = sym receipts ∙ c.clerk.invariant.receipts in
    let is = ap (λ (s : Sheet). s.quota) c.self.invariant.same_sheet in
    let whole : length hand.drawn + hand.rest ≡ c.self.inside.table.shared.key.quota =
    omega (arith, ap length are ∙ length-map hand.drawn (receipt_of hand.cycle), ap length receipts, c.len.ensures, c.clerk.invariant.rest, is, c.end.ensures.1, c.if-out-gt0.false) in
    AreAllBelow-receipts hand.cycle hand.drawn c.args.clerk.receipts are (c.end.ensures.2 whole)

pub returns-clause-quorums : goal.returns-clause-quorums
returns-clause-quorums c =
    let hand = c.clerk.inside.seat.me.0 in
    let receipts = ap (λ (v : ClerkState). v.receipts) c.clerk.view_is in
    let cycle = ap (λ (v : ClerkState). v.office.cycle) c.clerk.view_is ∙ ap (λ (n : OfficeName). n.cycle) c.requires in
    rw (← cycle, sym receipts ∙ c.clerk.invariant.receipts) (AreByCycle-map hand.cycle hand.drawn)
