use Rattle.std.proofs.Common.{◌<◌, ◌≡◌, ◌+◌, ◌≤◌, ◌++◌, ℕ, List, map, ap, subst, arith, sym, ◌∙◌}
use Rattle.atomic_table.specs.Table.{Me, Joins}
use Rattle.atomic_table.specs.Seated.{TableId}
use Rattle.board.specs.declared.table.View.{View}
use Rattle.board.specs.Seats.{BoardState, RootState, ClientSeatState}
use Rattle.board.specs.Rule.{Kept}
use Rattle.board.specs.Roots.{passes_of, IsRoot}
use Rattle.board.specs.Views.{client_view, with_client, spent_view}
use Rattle.board.proofs.Giving.{Joins-with_client}
use Rattle.board.proofs.RootFields.{IsRoot-with_client, numbers_of}
use Rattle.board.proofs.Register.{Counted-allowed}
use Rattle.board.proofs.root.BoardRoot.join_client.Goals as goal

pub join_seat-requires : goal.join_seat-requires
join_seat-requires c =
    let table = sym (ap (λ (b : BoardState). b.table) c.board.view_is) in
    let o = c.other.inside in
    let key = c.board.inside.table.shared.key in
    let u = c.self.inside.seat.me.0 in
    let root = c.self.invariant.root in
    let is : o.seat.me.0 ≡ client_view o.client o.held o.reading o.passes.items = ap (λ (m : Me (Unit {0}) View). m.0) c.other.invariant.view in (
      ap (λ (s : RootState). s.table) c.self.view_is ∙ c.requires.table ∙ table,
      ap (λ (s : ClientSeatState). s.table) c.other.view_is ∙ c.requires.other ∙ table,
      ap (λ (m : Me (Unit {0}) View). m.1) c.other.invariant.view,
      omega (arith, c.board.invariant.words),
      subst (λ (x : View). Joins (Kept key) c.self.inside.seat.id u o.seat.id x (with_client u x) spent_view) (sym is)
          (Joins-with_client key c.self.inside.seat.id u o.seat.id o.client o.held o.reading o.passes.items c.other.invariant.few c.in-None.ensures (omega (arith, root.parts, root.enough))),
    )

pub load-requires : goal.load-requires
load-requires c =
    let table = sym (ap (λ (b : BoardState). b.table) c.board.view_is) in (
      c.join_seat.ensures.0 ∙ ap (λ (s : RootState). s.table) c.self.view_is ∙ c.requires.table ∙ table,
      omega (arith, c.board.invariant.words),
      Counted-allowed c.board.inside.table.shared.key _ _ _,
    )

pub overflow_add-self : goal.overflow_add-self
overflow_add-self c =
    let o = c.other.inside in
    let parts = c.self.invariant.root.parts in
    let one : o.seat.me.0.parts ≡ 1 = ap (λ (m : Me (Unit {0}) View). m.0.parts) c.other.invariant.view in
    let after : c.join_seat.new.seat.me.0.parts ≡ c.self.inside.seat.me.0.parts + o.seat.me.0.parts = ap (λ (m : Me (Unit {0}) View). m.0.parts) c.join_seat.ensures.2 in
    let most : c.join_seat.new.seat.me.0.parts ≤ 129 = c.load.ensures.2.1 in
    omega arith

pub invariant_of-self-2 : goal.invariant_of-self-2
invariant_of-self-2 c =
    let o = c.other.inside in
    let u = c.self.inside.seat.me.0 in
    let one : o.seat.me.0.parts ≡ 1 = ap (λ (m : Me (Unit {0}) View). m.0.parts) c.other.invariant.view in
    let passes : o.seat.me.0.passes ≡ map (λ p. p.1) (passes_of o.client o.passes.items) = ap (λ (m : Me (Unit {0}) View). m.0.passes) c.other.invariant.view
    ∙ sym (numbers_of o.client o.passes.items) in
    let me = c.load.ensures.2.0 ∙ c.join_seat.ensures.2 in
    let kept : c.append.new.passes.items ≡ c.self.inside.passes.items ++ passes_of o.client o.passes.items =
    c.in-Ok.ensures ∙ ap (λ (l : List ℕ). c.self.inside.passes.items ++ passes_of o.client l) c.as_slice.ensures.value in
    record {
      no_slots = ap (λ (m : Me (Unit {0}) View). m.1) me ∙ c.self.invariant.no_slots;
      root = subst (λ (x : View × List (ℕ × ℕ)). IsRoot x.0 (c.self.inside.seats + 1) c.self.inside.voters c.self.inside.clients x.1)
          (λ i. (sym (ap (λ (m : Me (Unit {0}) View). m.0) me) i, sym kept i))
          (IsRoot-with_client u c.self.inside.seats c.self.inside.voters c.self.inside.clients c.self.inside.passes.items o.seat.me.0
          (passes_of o.client o.passes.items) c.self.invariant.root one passes);
      on_table = λ v on. subst (λ (z : TableId). v + 1 < z.words) (sym (c.load.ensures.0 ∙ c.join_seat.ensures.0)) (c.self.invariant.on_table v on);
    }
