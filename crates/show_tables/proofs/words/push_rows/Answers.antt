use Rattle.std.proofs.Common.{◌≡◌, ◌∙◌, ap, arith, get_or, map, string_bytes, subst, sym, take}
use Rattle.show_tables.specs.Cells.{cell_text}
use Rattle.show_tables.specs.Words.{AddsLine, AddsLines}
use Rattle.show_tables.proofs.LineLemmas.{lines-push, map-take-more}
use Rattle.show_tables.proofs.words.push_rows.Goals as goal

pub loop-row-preserved : goal.loop-row-preserved
loop-row-preserved c =
    let rows = c.args.table.now.rows.items in
    let k = c.loop-row.row-index in
    let row = c.row-item.result in
    let old = string_bytes c.args.text.now in
    let middle = string_bytes c.loop-row.text in
    let new = string_bytes c.push_line.new.text in
    let texts : map string_bytes c.as_slice-in-loop-row.result.now ≡ map cell_text row.items =
    ap (map string_bytes) c.as_slice-in-loop-row.ensures.value ∙ c.in_ok-texts.ensures ∙ ap (map cell_text) c.as_slice.ensures.value in
    let line : AddsLine (map cell_text row.items) middle new = subst (λ ts. AddsLine ts middle new) texts c.in_ok-push_line.ensures in
    subst (λ ts. AddsLines ts old new) (sym (map-take-more (λ r. map cell_text r.items) rows k row (c.row-item.is ∙ ap (λ rs. get_or rs k row) c.deref-row-items.ensures.value) (omega arith)))
    (lines-push (map (λ r. map cell_text r.items) (take k rows)) (map cell_text row.items) old middle new c.loop-row.invariant line)
