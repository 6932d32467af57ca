use Rattle.std.proofs.Common.{◌≡◌, ◌≢◌, ap₂, ◌<◌, ℕ, ◌+◌, length, List, sym, ap, ◌∙◌, arith}
use Rattle.std.specs.Prelude.{slice_index}
use Rattle.atomic_table.specs.Table.{Me}
use Rattle.board.specs.declared.table.View.{View}
use Rattle.board.specs.Seats.{Setting}
use Rattle.board.specs.Seats.{BoardState, ClientSeatState}
use Rattle.atomic_table.specs.Seated.{TableId}
use Rattle.board.specs.Words.{name_of, returned_word}
use Rattle.board.proofs.Votes.{GaveBack-allowed}
use Rattle.board.proofs.client.ClientSeat.give_back.Goals as goal

pub swap-requires : goal.swap-requires
swap-requires c =
    let voters = ap (λ (b : BoardState). b.voters) c.board.view_is in
    let sheet = ap (λ (s : Setting). s.voters) c.board.invariant.same_sheet in
    let held = ap (λ (s : ClientSeatState). s.held) c.self.view_is in
    let few = c.board.invariant.few_voters in
    let knows = c.self.invariant.view in
    let mine = ap (λ (m : Me (Unit {0}) View). m.0.held) knows in
    let client = ap (λ (m : Me (Unit {0}) View). m.0.client) knows in
    let at = c.from-place.ensures in
    let here : slice_index c.self.inside.seat.me.0.held c.from-place.result ≡ slice_index c.self.inside.held c.from-place.result = ap (λ (l : List ℕ). slice_index l c.from-place.result) mine in
    let old : slice_index c.self.inside.held c.from-place.result ≡ slice_index c.args.self.now.held c.args.voter = ap (slice_index c.self.inside.held) at
    ∙ ap (λ (l : List ℕ). slice_index l c.args.voter) held in
    let some_grant : slice_index c.self.inside.held c.from-place.result ≢ 0 = λ z. c.requires.held (sym old ∙ z) in
    let table = ap (λ (s : ClientSeatState). s.table) c.self.view_is ∙ c.requires.table ∙ sym (ap (λ (b : BoardState). b.table) c.board.view_is) in
    let words = ap (λ (t : TableId). t.words) table in
    let inside : c.from-place.result + 1 < c.self.inside.seat.table_id.words = c.self.invariant.on_table c.from-place.result some_grant in (
      table,
      omega (arith, c.board.invariant.words, words, inside),
      GaveBack-allowed c.board.inside.table.shared.key _ _ _ c.from-place.result _ (omega (arith, sheet, c.board.invariant.words, words, inside)) (omega (arith, c.self.invariant.few))
          (let long : length c.self.inside.seat.me.0.held ≡ length c.self.inside.held = ap length mine in omega (arith, few, words, inside, c.board.invariant.words, c.self.told))
          (λ z. some_grant (sym here ∙ z))
          (c.word-returned.ensures ∙ ap₂ (λ (n g : ℕ). returned_word (name_of n g)) (sym client) (sym here)),
    )
