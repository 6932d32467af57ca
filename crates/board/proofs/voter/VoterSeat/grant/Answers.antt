use Rattle.std.proofs.Common.{◌≡◌, ℕ, ◌+◌, ◌<◌, None, Some, length, set, sym, ap, ◌∙◌, subst, arith}
use Rattle.std.specs.Prelude.{Option, slice_index}
use Rattle.atomic_table.specs.Seated.{TableId}
use Rattle.board.specs.Seats.{BoardState, VoterSeatState}
use Rattle.board.specs.Views.{current_name}
use Rattle.board.specs.Seats.{Setting}
use Rattle.board.specs.Words.{name_of, name_in}
use Rattle.board.proofs.Votes.{Granted-allowed_by_word}
use Rattle.board.proofs.VoterFields.{length-voter_view, slice_index-voter_view, set-voter_view}
use Rattle.board.proofs.voter.VoterSeat.grant.Goals as goal

pub swap-requires : goal.swap-requires
swap-requires c =
    let free : c.self.inside.current ≡ None = ap (λ (s : VoterSeatState). s.current) c.self.view_is ∙ c.requires.free in
    let voter = ap (λ (s : VoterSeatState). s.voter) c.self.view_is in
    let voters = ap (λ (b : BoardState). b.voters) c.board.view_is in
    let sheet = ap (λ (s : Setting). s.voters) c.board.invariant.same_sheet in
    let here = slice_index-voter_view c.self.inside.seat.me c.self.inside.voter c.self.inside.current c.self.invariant.view c.self.invariant.few in
    let room = length-voter_view c.self.inside.seat.me c.self.inside.voter c.self.inside.current c.self.invariant.view c.self.invariant.few in
    let at : c.from.result ≡ c.self.inside.voter = c.from.ensures in
    let words = ap (λ (z : TableId). z.words) (ap (λ (s : VoterSeatState). s.table) c.self.view_is ∙ c.requires.table ∙ sym (ap (λ (b : BoardState). b.table) c.board.view_is)) in
    let in_board : c.from.result < c.board.inside.sheet.voters = omega (arith, c.self.invariant.on_table, c.board.invariant.words, words) in (
      ap (λ (s : VoterSeatState). s.table) c.self.view_is ∙ c.requires.table ∙ sym (ap (λ (b : BoardState). b.table) c.board.view_is),
      omega (arith, c.board.invariant.words),
      Granted-allowed_by_word c.board.inside.table.shared.key _ _ _ c.from.result (name_of c.args.client c.args.grant) _ (omega arith) (omega (arith, c.requires.above))
          (subst (λ (v : ℕ). v < length c.self.inside.seat.me.0.voters) (sym at) room)
          (ap (slice_index c.self.inside.seat.me.0.voters) at ∙ here ∙ ap (λ (x : Option (ℕ × ℕ)). current_name x + 1) free)
          c.word-offered.ensures,
    )

pub invariant_of-self : goal.invariant_of-self
invariant_of-self c =
    let in_range : c.args.client < 64 = omega (arith, c.requires.client, ap (λ (b : BoardState). b.clients) c.board.view_is, c.board.invariant.few_clients) in
    record {
      view = set-voter_view c.self.inside.seat.me c.swap.new.seat.me c.self.inside.voter _ c.self.inside.current (Some (c.args.client, c.args.grant)) c.self.invariant.view
          (subst (λ (v : ℕ). c.swap.new.seat.me ≡ (record c.self.inside.seat.me.0 { voters = set c.self.inside.seat.me.0.voters v (name_in c.word-offered.result + 1) }, c.self.inside.seat.me.1))
          c.from.ensures c.swap.ensures.2.2)
          (omega (arith, c.word-offered.ensures));
      few = c.self.invariant.few;
      grant = (in_range, omega (arith, c.requires.above), omega arith, omega (arith, c.requires.fits));
      on_table = subst (λ (z : TableId). c.self.inside.voter + 1 < z.words) (sym c.swap.ensures.0) c.self.invariant.on_table;
    }
