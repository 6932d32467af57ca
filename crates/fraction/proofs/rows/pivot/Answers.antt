use Rattle.std.proofs.Common.{◌≡◌, ◌<◌, ℤ, length, get_or, sym, subst, ap, ◌∙◌, refl}
use Rattle.std.specs.Int.{w128}
use Rattle.std.proofs.lemmas.Int.{to_z-of_z}
use Rattle.fraction.specs.Rows.{EachFits}
use Rattle.fraction.proofs.RowLemmas.{passed-entry}
use Rattle.fraction.proofs.PivotLemmas.{IsParted-split, row_at-row, set-from_length_one, scaled_row-equal, AllEliminateFit-as, EachRow-IsEliminated_as, lists_of-parted}
use Rattle.fraction.proofs.PivotLemmas.{AllEliminateFit-above, AllEliminateFit-below, EachFits-pivot_row, IsUnreduced-from_rows}
use Rattle.std.proofs.Common.{Vec}
use Rattle.std.specs.declared.alloc.Global.{Global}
use Rattle.std.specs.Vec.{with_items}
use Rattle.fraction.proofs.RowsLemmas.{with_items-items}
use Rattle.fraction.proofs.rows.pivot.Goals as goal

pub entry-entry-requires : goal.entry-entry-requires
entry-entry-requires c =
    let parted = IsParted-split _ _ _ _ _ c.index-own-0.result c.args.row c.split_at_mut-above.ensures.value c.split_at_mut-above.ensures.front_len
    c.split_at_mut-own.ensures.value c.split_at_mut-own.ensures.front_len in
    subst (λ r. c.args.column < length r) (row_at-row _ _ _ _ c.args.row parted ∙ sym c.deref.ensures.value) c.requires.column

pub eliminate_each-requires : goal.eliminate_each-requires
eliminate_each-requires c =
    let parted = IsParted-split _ _ _ _ _ c.index-own-0.result c.args.row c.split_at_mut-above.ensures.value c.split_at_mut-above.ensures.front_len
    c.split_at_mut-own.ensures.value c.split_at_mut-own.ensures.front_len in
    let entry_is = passed-entry c.entry-entry.result _ _ c.args.column (record { sfits = c.entry-entry.type_inv }) c.entry-entry.ensures c.deref.ensures.value in
    AllEliminateFit-as _ _ _ _ _ c.args.column c.deref-2.ensures.value entry_is
    (AllEliminateFit-above _ _ _ _ c.args.den c.args.row c.args.column parted c.requires.level c.requires.column c.requires.fits)

pub eliminate_each-requires-2 : goal.eliminate_each-requires-2
eliminate_each-requires-2 c =
    let parted = IsParted-split _ _ _ _ _ c.index-own-0.result c.args.row c.split_at_mut-above.ensures.value c.split_at_mut-above.ensures.front_len
    c.split_at_mut-own.ensures.value c.split_at_mut-own.ensures.front_len in
    let entry_is = passed-entry c.entry-entry.result _ _ c.args.column (record { sfits = c.entry-entry.type_inv }) c.entry-entry.ensures c.deref.ensures.value in
    AllEliminateFit-as _ _ _ _ _ c.args.column c.deref-3.ensures.value entry_is
    (AllEliminateFit-below _ _ _ _ c.args.den c.args.row c.args.column parted c.requires.level c.requires.column c.requires.fits)

pub scale-requires : goal.scale-requires
scale-requires c =
    let parted = IsParted-split _ _ _ _ _ c.index-own-0.result c.args.row c.split_at_mut-above.ensures.value c.split_at_mut-above.ensures.front_len
    c.split_at_mut-own.ensures.value c.split_at_mut-own.ensures.front_len in
    subst (λ d. EachFits c.deref_mut.result.now d) (sym (to_z-of_z w128 c.args.den c.ranges.den))
    (subst (λ r. EachFits r c.args.den) (sym c.deref_mut.ensures.value) (EachFits-pivot_row _ _ _ _ c.args.den c.args.row c.args.column parted c.requires.fits))

pub returns : goal.returns
returns c =
    let f : Vec ℤ Global = get_or c.split_at_mut-own.result.0.now 0 c.index-own-0.result in
    let parted = IsParted-split _ _ _ _ _ c.index-own-0.result c.args.row c.split_at_mut-above.ensures.value c.split_at_mut-above.ensures.front_len
    c.split_at_mut-own.ensures.value c.split_at_mut-own.ensures.front_len in
    let entry_is = passed-entry c.entry-entry.result _ _ c.args.column (record { sfits = c.entry-entry.type_inv }) c.entry-entry.ensures c.deref.ensures.value in
    let v : Vec ℤ Global = with_items f c.scale.new.row in
    let same : length c.scale.new.row ≡ length c.deref_mut.result.now = c.scale.auto.row in
    let now = with_items-items f c.scale.new.row _ same c.deref_mut.ensures.value in
    let den_is = to_z-of_z w128 c.args.den c.ranges.den in
    IsUnreduced-from_rows _ _ _ _ _ _ f.items v.items c.args.den c.args.row c.args.column parted
    (lists_of-parted _ _ _ _ _ v refl refl (set-from_length_one _ _ c.split_at_mut-own.ensures.front_len))
    (EachRow-IsEliminated_as _ _ f.items _ _ _ c.args.column c.deref-2.ensures.value entry_is c.eliminate_each.ensures)
    (EachRow-IsEliminated_as _ _ f.items _ _ _ c.args.column c.deref-3.ensures.value entry_is c.eliminate_each-2.ensures)
    (ap length now ∙ same ∙ ap length c.deref_mut.ensures.value)
    (scaled_row-equal v.items f.items c.scale.new.row c.deref_mut.result.now c.args.den _ now c.deref_mut.ensures.value den_is c.scale.ensures)
