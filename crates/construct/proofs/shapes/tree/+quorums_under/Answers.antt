use Rattle.std.proofs.Common.{◌≡◌, ℕ, List, IfOk, arith, subst, sym, ◌∙◌, ap₂}
use Rattle.construct.specs.Tree.{node_quorums}
use Rattle.construct.proofs.TreeLemmas.{child_rooms, quorums_under-step}
use Rattle.construct.proofs.shapes.tree.+quorums_under.Goals as goal

pub overflow_mul-i : goal.overflow_mul-i
overflow_mul-i t c = let room = child_rooms c.args.h c.args.i _ c.if-h-eq0.false c.requires in omega (arith, room.2)

pub overflow_add-i : goal.overflow_add-i
overflow_add-i t c = let room = child_rooms c.args.h c.args.i _ c.if-h-eq0.false c.requires in omega (arith, room.2)

pub quorums_under-requires : goal.quorums_under-requires
quorums_under-requires t c =
    let room = child_rooms c.args.h c.args.i _ c.if-h-eq0.false c.requires in (omega arith, room.0)

pub overflow_mul-i-2 : goal.overflow_mul-i-2
overflow_mul-i-2 t c = let room = child_rooms c.args.h c.args.i _ c.if-h-eq0.false c.requires in omega (arith, room.2)

pub overflow_add-i-2 : goal.overflow_add-i-2
overflow_add-i-2 t c = let room = child_rooms c.args.h c.args.i _ c.if-h-eq0.false c.requires in omega (arith, room.2)

pub quorums_under-requires-2 : goal.quorums_under-requires-2
quorums_under-requires-2 t c =
    let room = child_rooms c.args.h c.args.i _ c.if-h-eq0.false c.requires in (omega arith, room.1)

pub returns : goal.returns
returns t c =
    let P : List (List ℕ) → Type 0 = λ qs. IfOk c.node_quorums.result (λ v. v.items ≡ qs) in
    subst P
    (ap₂ (node_quorums c.args.i) (c.deref.ensures.value ∙ c.in_ok-left.ensures) (c.deref-2.ensures.value ∙ c.in_ok-right.ensures)
    ∙ sym (quorums_under-step c.args.h c.args.i c.if-h-eq0.false))
    c.node_quorums.ensures
