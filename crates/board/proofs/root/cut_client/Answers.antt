use Rattle.std.proofs.Common.{◌<◌, ℕ, subst}
use Rattle.board.proofs.Giving.{Splits-without_client}
use Rattle.board.proofs.root.cut_client.Goals as goal

pub split_seat-requires : goal.split_seat-requires
split_seat-requires g c = (
  c.requires.table.0,
  c.requires.table.1,
  Splits-without_client c.args.table.now.shared.key _ _ g.N.Number.number
      (subst (λ (n : ℕ). n < 64) c.requires.pick c.requires.there.0) c.requires.there.1,
)
