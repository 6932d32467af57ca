use Rattle.std.proofs.Common.{◌≡◌, ℕ, length, sym, ap, ◌∙◌, arith}
use Rattle.std.specs.Prelude.{slice_index}
use Rattle.atomic_table.specs.Table.{Me}
use Rattle.board.specs.declared.table.View.{View}
use Rattle.board.specs.Seats.{Setting}
use Rattle.board.specs.Seats.{BoardState, ClientSeatState}
use Rattle.board.specs.Words.{name_of, offered_word, taken_word}
use Rattle.board.proofs.Votes.{Took-allowed_by_words}
use Rattle.board.proofs.client.ClientSeat.take.Goals as goal

pub compare_exchange-found-requires : goal.compare_exchange-found-requires
compare_exchange-found-requires c =
    let voters = ap (λ (b : BoardState). b.voters) c.board.view_is in
    let sheet = ap (λ (s : Setting). s.voters) c.board.invariant.same_sheet in
    let held = ap (λ (s : ClientSeatState). s.held) c.self.view_is in
    let few = c.board.invariant.few_voters in
    let knows = c.self.invariant.view in
    let mine = ap (λ (m : Me (Unit {0}) View). m.0.held) knows in
    let client = ap (λ (m : Me (Unit {0}) View). m.0.client) knows in
    let at = c.from-place.ensures in
    let named = λ (P : ℕ → ℕ) (x : ℕ) (e : x ≡ P (name_of c.self.inside.client c.args.grant)). e ∙ ap (λ (n : ℕ). P (name_of n c.args.grant)) (sym client) in (
      ap (λ (s : ClientSeatState). s.table) c.self.view_is ∙ c.requires.table ∙ sym (ap (λ (b : BoardState). b.table) c.board.view_is),
      omega (arith, c.board.invariant.words, c.requires.voter),
      Took-allowed_by_words c.board.inside.table.shared.key _ _ _ c.from-place.result c.args.grant _ _ (omega (arith, c.requires.voter)) (omega (arith, c.requires.grant))
          (omega (arith, c.self.invariant.few))
          (let long : length c.self.inside.seat.me.0.held ≡ length c.self.inside.held = ap length mine in omega (arith, c.requires.voter, c.self.told))
          (ap (slice_index c.self.inside.seat.me.0.held) at ∙ ap (λ l. slice_index l c.args.voter) (mine ∙ held) ∙ c.requires.free)
          (named offered_word _ c.word-offered.ensures)
          (named taken_word _ c.word-held.ensures),
    )
