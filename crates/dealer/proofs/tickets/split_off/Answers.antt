use Rattle.std.proofs.Common.{◌≤◌, ℕ, subst}
use Rattle.dealer.proofs.TicketSteps.{Dealt-splits}
use Rattle.dealer.proofs.tickets.split_off.Goals as goal

pub split_seat-requires : goal.split_seat-requires
split_seat-requires g c = (
  c.requires.table,
  c.requires.word,
  Dealt-splits c.args.table.now.shared.key _ _ g.Q.Amount.amount (subst (λ (n : ℕ). n ≤ c.args.seat.now.me.0.rest) c.requires.amount c.requires.rest),
)
