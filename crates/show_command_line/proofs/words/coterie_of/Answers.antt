use Rattle.std.proofs.Common.{List, ℕ, subst}
use Rattle.clap.specs.Words.{found_of, rows_of}
use Rattle.show_coteries.specs.Names.{IsShapeOf}
use Rattle.show_coteries.specs.declared.shape.CoterieShape.{CoterieShape}
use Rattle.show_command_line.proofs.WordLemmas.{HasShape-none, NamesNone-shape}
use Rattle.show_command_line.proofs.words.coterie_of.Goals as goal

pub returns-in_default-3-clause-refused : goal.returns-in_default-3-clause-refused
returns-in_default-3-clause-refused c =
    let rows = rows_of (found_of c.args.used.now) in
    let name = c.in-Some.name.now in
    let sizes = rw c.in-Some-2.is at c.in_ok-sizes.ensures.some in
    let none = subst (λ (ns : List ℕ). (shape : CoterieShape) → IsShapeOf name ns shape → ⊥) c.deref.ensures.value (c.in_ok-shape.ensures.none c.in_default-3.is) in
    NamesNone-shape rows (HasShape-none rows name c.in-Some-2.sizes.items c.in-Some.ensures sizes none)
