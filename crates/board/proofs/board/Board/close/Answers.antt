use Rattle.std.proofs.Common.{◌≡◌, ◌+◌, ℕ, List, length, map, ap, subst, arith, sym, ◌∙◌}
use mathlib.Core.Option.{some}
use lib.ListN.{get_elem?}
use Rattle.std.specs.Slots.{slots_items}
use Rattle.numbers.specs.Sums.{AreAllBelow}
use Rattle.board.specs.Seats.{BoardState, RootState, Setting}
use Rattle.board.proofs.Ends.{closed_parts, register-at_close}
use Rattle.board.proofs.board.Board.close.Goals as goal

pub overflow_sub-count : goal.overflow_sub-count
overflow_sub-count c =
    let key = c.self.inside.table.shared.key in
    let voters = ap (λ (s : Setting). s.voters) c.self.invariant.same_sheet in
    let clients = ap (λ (s : Setting). s.clients) c.self.invariant.same_sheet in
    let within = closed_parts key c.root.inside.seat.id c.root.inside.seat.me.0 _ _ c.close_with-closed.ensures.values.2 in
    omega (arith, within.0, c.root.invariant.root.parts, voters, clients, c.voters-2.ensures.value, c.clients.ensures.value, c.from.ensures)

pub returns-clause-joined : goal.returns-clause-joined
returns-clause-joined c =
    let key = c.self.inside.table.shared.key in
    let voters = ap (λ (s : Setting). s.voters) c.self.invariant.same_sheet in
    let clients = ap (λ (s : Setting). s.clients) c.self.invariant.same_sheet in
    let of_voters = ap (λ (b : BoardState). b.voters) c.self.view_is in
    let of_clients = ap (λ (b : BoardState). b.clients) c.self.view_is in
    let seats = ap (λ (r : RootState). r.seats) c.root.view_is in
    let within = closed_parts key c.root.inside.seat.id c.root.inside.seat.me.0 _ _ c.close_with-closed.ensures.values.2 in
    omega (arith, within.0, c.root.invariant.root.parts, voters, clients, of_voters, of_clients, seats, c.voters-2.ensures.value, c.clients.ensures.value, c.from.ensures, c.if-count-gt0.false)

-- the register is the number of all passes, and their numbers are those below it
ends : (c : goal.After-drop-sheet-inside-2) → (c.word-register.result ≡ length c.args.root.passes) × AreAllBelow (map (λ p. p.1) c.args.root.passes) c.word-register.result
ends c =
    let key = c.self.inside.table.shared.key in
    let voters = ap (λ (s : Setting). s.voters) c.self.invariant.same_sheet in
    let clients = ap (λ (s : Setting). s.clients) c.self.invariant.same_sheet in
    let passes = ap (λ (r : RootState). r.passes) c.root.view_is in
    let number = c.voters.ensures.value in
    let within = closed_parts key c.root.inside.seat.id c.root.inside.seat.me.0 _ _ c.close_with-closed.ensures.values.2 in
    let all : c.root.inside.seat.me.0.parts ≡ key.voters + key.clients + 1 =
    omega (arith, within.0, c.root.invariant.root.parts, voters, clients, c.voters-2.ensures.value, c.clients.ensures.value, c.from.ensures, c.if-count-gt0.false) in
    let at = subst (λ (i : ℕ). get_elem? (slots_items c.close_with-closed.result.words) i ≡ some c.word-register.result) (number ∙ sym voters) c.word-register.ensures in
    let both = register-at_close key c.root.inside.seat.id c.root.inside.seat.me.0 _ _ c.word-register.result c.root.inside.passes.items c.close_with-closed.ensures.values.2
    all at c.root.invariant.root.passes in (
      both.0 ∙ ap length passes,
      subst (λ (x : List (ℕ × ℕ)). AreAllBelow (map (λ p. p.1) x) c.word-register.result) passes both.1,
    )

pub returns-clause-register : goal.returns-clause-register
returns-clause-register c = (ends c).0

pub returns-clause-once : goal.returns-clause-once
returns-clause-once c = (ends c).1
