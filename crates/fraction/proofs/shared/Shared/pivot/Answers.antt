use Rattle.std.proofs.Common.{rules, ◌≡◌, ℤ, to_z, of_z, List, Vec, sym, subst, ap, ◌∙◌}
use Rattle.std.specs.declared.alloc.Global.{Global}
use Rattle.std.specs.Int.{w128}
use Rattle.std.proofs.lemmas.Int.{to_z-of_z}
use Rattle.fraction.specs.Tables.{Table, IsTable, IsPivoted}
use Rattle.fraction.specs.Rows.{lists_of}
use Rattle.fraction.proofs.RowsLemmas.{with_items-items}
use Rattle.fraction.proofs.shared.Shared.pivot.Goals as goal

pub invariant_of-self : goal.invariant_of-self
invariant_of-self c =
    let new : List (Vec ℤ Global) = c.solve-self-inside.new.rows in
    let rows_are = ap lists_of (with_items-items c.self.inside.rows new _ c.solve-self-inside.auto.rows c.deref_mut.ensures.value) in
    let den_is = to_z-of_z w128 c.solve-self-inside.result (record { sfits = c.solve-self-inside.type_inv }) in
    subst (λ rs. IsTable (record { rows = rs; den = to_z w128 (of_z w128 c.solve-self-inside.result) })) (sym rows_are)
    (subst (λ d. IsTable (record { rows = lists_of new; den = d })) (sym den_is) c.solve-self-inside.ensures.table)

pub returns-clause-value : goal.returns-clause-value
returns-clause-value c =
    let new : List (Vec ℤ Global) = c.solve-self-inside.new.rows in
    let rows_are = ap lists_of (with_items-items c.self.inside.rows new _ c.solve-self-inside.auto.rows c.deref_mut.ensures.value) in
    let den_is = to_z-of_z w128 c.solve-self-inside.result (record { sfits = c.solve-self-inside.type_inv }) in
    let old : record { rows = lists_of c.deref_mut.result.now; den = to_z w128 (of_z w128 c.self.inside.den) } ≡ c.args.self.now =
    ap (λ rs. record { rows = lists_of rs; den = to_z w128 (of_z w128 c.self.inside.den) }) c.deref_mut.ensures.value
    ∙ ap (λ d. record { rows = lists_of c.self.inside.rows.items; den = d }) (to_z-of_z w128 c.self.inside.den (search rules))
    ∙ c.self.view_is in
    subst (λ rs. IsPivoted c.args.self.now (record { rows = rs; den = to_z w128 (of_z w128 c.solve-self-inside.result) }) c.args.row c.args.column) (sym rows_are)
    (subst (λ d. IsPivoted c.args.self.now (record { rows = lists_of new; den = d }) c.args.row c.args.column) (sym den_is)
    (subst (λ (t : Table). IsPivoted t (record { rows = lists_of new; den = c.solve-self-inside.result }) c.args.row c.args.column) old c.solve-self-inside.ensures.value))
