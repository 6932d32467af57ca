use Rattle.std.proofs.Common.{◌≡◌, ℕ, Option, Some, IfSome, refl, sym, ap, ◌∙◌, subst}
use Rattle.board.specs.Quorums.{place_of}
use Rattle.board.specs.Seats.{BoardState, ClientSeatState as SeatState}
use Rattle.members.proofs.MemberLemmas.{Board-injective, Ok-not_Err, full_or_not}
use Rattle.members.proofs.member.Member.pass.Goals.{in-Ok, in-Err}
use Rattle.members.proofs.member.Member.pass.Goals as goal

pub returns-clause-full : goal.returns-clause-full
returns-clause-full g c = λ e.
    let read = ap (λ (s : SeatState). s.reading) c.read_register.ensures.read in
    let limit = c.board-board.result.now.limit in
    elim c.match-write_register.branch [
      | in-Ok w ↦ absurd (Ok-not_Err _ _ _ w.result-is e)
      | in-Err w ↦
          let full = subst (λ (r : Option (ℕ × ℕ)). IfSome r (λ p. p.1 ≡ limit)) read (w.in-Err.ensures.full (Board-injective _ _ _ w.result-is e)) in
          let number = full ∙ ap (λ (b : BoardState). b.limit) c.board-board.ensures in
          let place = place_of c.board-board.result.now.firsts c.self.inside.side c.self.inside.quorum in
          (place, ap (λ (s : SeatState). s.reading) w.in-Err.ensures.kept ∙ read ∙ (λ i. Some (place, number i)))
    ]

pub returns-clause-room : goal.returns-clause-room
returns-clause-room g c = λ e.
    let read = ap (λ (s : SeatState). s.reading) c.read_register.ensures.read in
    let limit = c.board-board.result.now.limit in
    elim c.match-write_register.branch [
      | in-Ok w ↦ absurd (Ok-not_Err _ _ _ w.result-is e)
      | in-Err w ↦ (
        place_of c.board-board.result.now.firsts c.self.inside.side c.self.inside.quorum,
        c.read_register.result,
        ap (λ (s : SeatState). s.reading) w.in-Err.ensures.kept ∙ read,
        λ same.
            let number = same ∙ sym (ap (λ (b : BoardState). b.limit) c.board-board.ensures) in
            let full = w.in-Err.ensures.limit (subst (λ (r : Option (ℕ × ℕ)). IfSome r (λ p. p.1 ≡ limit)) (sym read) number) in
            full_or_not _ w.in-Err.fault full refl (Board-injective _ _ _ w.result-is e),
      )
    ]
