use Rattle.std.proofs.Common.{◌≡◌, ◌<◌, ℕ, None, subst, ap, ◌∙◌, sym}
use Rattle.atomic_table.specs.Table.{Me, Joins}
use Rattle.board.specs.declared.table.View.{View}
use Rattle.board.specs.Rule.{Kept}
use Rattle.board.specs.Views.{voter_view}
use Rattle.board.specs.Views.{with_voter, spent_view}
use Rattle.board.proofs.Giving.{Joins-with_voter}
use Rattle.board.proofs.Register.{Counted-allowed}
use Rattle.board.proofs.root.join_voter_seat.Goals as goal

pub join_seat-requires : goal.join_seat-requires
join_seat-requires g c =
    let pick = c.requires.pick in
    let key = c.args.table.now.shared.key in
    let n : ℕ = g.N.Number.number in
    let u = c.args.seat.now.me.0 in
    let is : c.args.other.me.0 ≡ voter_view n None = ap (λ (m : Me (Unit {0}) View). m.0) c.requires.other ∙ ap (λ (k : ℕ). voter_view k None) pick in (
      c.requires.table.0,
      c.requires.table.1,
      ap (λ (m : Me (Unit {0}) View). m.1) c.requires.other,
      c.requires.table.2,
      subst (λ (w : View). Joins (Kept key) c.args.seat.now.id u c.args.other.id w (with_voter n u w) spent_view) (sym is)
          (Joins-with_voter key c.args.seat.now.id u c.args.other.id n (subst (λ (k : ℕ). k < key.voters) pick c.requires.root.0) (subst (λ (k : ℕ). k < 64) pick c.requires.root.1) c.requires.root.2),
    )

pub load-requires : goal.load-requires
load-requires g c = (c.join_seat.ensures.0 ∙ c.requires.table.0, c.requires.table.2, Counted-allowed c.args.table.now.shared.key _ _ _)
