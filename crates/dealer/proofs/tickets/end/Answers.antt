use Rattle.dealer.proofs.TicketSteps.{Ends-from_final}
use Rattle.dealer.proofs.tickets.end.Goals as goal

pub returns : goal.returns
returns c = Ends-from_final c.args.table.shared.key _ _ _ _ c.close_with.ensures.values.2
