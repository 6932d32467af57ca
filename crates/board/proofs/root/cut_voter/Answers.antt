use Rattle.std.proofs.Common.{◌<◌, ℕ, subst, ap, ◌∙◌, sym}
use Rattle.std.specs.Prelude.{slice_index}
use Rattle.board.proofs.Giving.{Splits-without_voter}
use Rattle.board.proofs.root.cut_voter.Goals as goal

pub split_seat-requires : goal.split_seat-requires
split_seat-requires g c =
    let pick = c.requires.pick in
    let there = c.requires.there in (
      c.requires.table.0,
      c.requires.table.1,
      Splits-without_voter c.args.table.now.shared.key _ _ g.N.Number.number (subst (λ (n : ℕ). n < 64) pick there.0) there.1
          (ap (slice_index c.args.seat.now.me.0.voters) (sym pick) ∙ there.2) there.3,
    )
