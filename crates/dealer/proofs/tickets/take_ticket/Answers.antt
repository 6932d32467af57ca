use Rattle.std.proofs.Common.{ℕ, ◌+◌, ◌%◌, ◌^◌, subst}
use mathlib.Core.Option.{none}
use Rattle.atomic_table.specs.Table.{step, Allows}
use Rattle.dealer.specs.Tickets.{Dealt, Draws}
use Rattle.dealer.proofs.TicketSteps.{Draws-allowed}
use Rattle.dealer.proofs.tickets.take_ticket.Goals as goal

pub fetch_add-requires : goal.fetch_add-requires
fetch_add-requires g c =
    let table = c.args.table.now.shared in
    let me = c.args.seat.now.me in (
      c.requires.table,
      c.requires.word,
      subst (λ (q : ℕ). Allows (Dealt table.key) table.table_id.slots c.args.seat.now.id me 0 (λ n. (n + 1) % 2 ^ 64) (Draws q (step table.table_id.slots 0 1 0 none) me))
          c.requires.quota (Draws-allowed table.key table.table_id.slots c.args.seat.now.id me c.requires.rest),
    )
