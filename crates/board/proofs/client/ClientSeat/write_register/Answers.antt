use Rattle.std.proofs.Common.{sym, ap, ◌∙◌, subst, arith}
use Rattle.atomic_table.specs.Table.{Me}
use Rattle.board.specs.declared.table.View.{View}
use Rattle.board.specs.Seats.{Setting}
use Rattle.quorum_set.specs.Meetings.{AllMeet}
use Rattle.board.specs.Seats.{BoardState, ClientSeatState}
use Rattle.board.proofs.Register.{Wrote-allowed}
use Rattle.board.proofs.client.ClientSeat.write_register.Goals as goal

pub store-requires : goal.store-requires
store-requires c =
    let same = c.board.invariant.same_sheet in
    let knows = c.self.invariant.view in
    let sheet = ap (λ (s : Setting). s.voters) same in
    let limit = ap (λ (s : Setting). s.limit) same in (
      ap (λ (s : ClientSeatState). s.table) c.self.view_is ∙ c.requires.table ∙ sym (ap (λ (b : BoardState). b.table) c.board.view_is),
      omega (arith, c.voters-word.ensures.value, c.board.invariant.words),
      Wrote-allowed c.board.inside.table.shared.key _ _ _ c.voters-word.result c.unwrap-number.result.0 c.unwrap-number.result.1 (c.voters-word.ensures.value ∙ sym sheet)
          (subst (λ (s : Setting). AllMeet s.voters s.quorums) (sym same) c.board.invariant.meet)
          (ap (λ (m : Me (Unit {0}) View). m.0.parts) knows)
          (ap (λ (m : Me (Unit {0}) View). m.0.reading) knows ∙ c.unwrap-number.ensures)
          (λ e. c.if-number-limit.false (e ∙ limit ∙ sym c.limit-limit.ensures.value)),
    )
