use Rattle.std.proofs.Common.{◌∙◌, ◌++◌, ◌∷◌, [], ap, ap₂, arith, map, string_bytes, sym}
use Rattle.numbers.proofs.Lists.{map-push}
use Rattle.show_tables.specs.Cells.{cell_text}
use Rattle.show_compare.proofs.GroupLemmas.{map-take-more}
use Rattle.show_compare.proofs.PageLemmas.{cells_of}
use Rattle.show_compare.proofs.groups.loss_rows.Goals as goal

pub loop-group-preserved : goal.loop-group-preserved
loop-group-preserved c =
    let t = c.args.is_throughput in
    let entries = c.args.entries.now in
    let groups = c.args.groups.now in
    let group = c.group-item.result in
    let row = c.in_ok-loss_cells.ensures ∙ ap (cells_of t entries) c.as_str.ensures.value in
    ap (map (λ r. map cell_text r.items)) c.in_ok-push.ensures.items ∙ map-push (λ r. map cell_text r.items) c.loop-group.rows.items c.in_ok-loss_cells.field-0
    ∙ ap₂ (λ xs x. xs ++ x ∷ []) c.loop-group.invariant row
    ∙ sym (map-take-more (λ g. cells_of t entries (string_bytes g)) groups c.loop-group.group-index group c.group-item.is (omega arith))
