use Rattle.std.proofs.Common.{◌∙◌}
use Rattle.dealer.proofs.TicketSteps.{Dealt-joins, Looks-allowed}
use Rattle.dealer.proofs.tickets.take_in.Goals as goal

pub join_seat-requires : goal.join_seat-requires
join_seat-requires c = (c.requires.table, c.requires.other_table, c.requires.no_slot, c.requires.word, Dealt-joins c.args.table.now.shared.key _ _ _ _)

pub load-requires : goal.load-requires
load-requires c = (c.join_seat.ensures.0 ∙ c.requires.table, c.requires.word, Looks-allowed c.args.table.now.shared.key _ _ _)
