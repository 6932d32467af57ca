use Rattle.dealer.proofs.ReceiptLemmas.{AreByCycle-map}
use Rattle.dealer.proofs.clerk.Clerk.receipts.Goals as goal

pub returns-clause-quorums : goal.returns-clause-quorums
returns-clause-quorums c = rw (← c.self.view_is, c.self.invariant.receipts) (AreByCycle-map c.self.inside.seat.me.0.cycle c.self.inside.seat.me.0.drawn)
