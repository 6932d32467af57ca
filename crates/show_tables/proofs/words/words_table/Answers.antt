use Rattle.std.proofs.Common.{◌≡◌, ◌∙◌, [], ap, map, string_bytes, subst}
use Rattle.show_tables.specs.Cells.{cell_text}
use Rattle.show_tables.specs.Words.{AddsLine, titles_of}
use Rattle.show_tables.proofs.LineLemmas.{lines-cons}
use Rattle.show_tables.proofs.words.words_table.Goals as goal

pub returns : goal.returns
returns c =
    let table = c.args.table.now in
    let titles = titles_of table.columns.items in
    let rows = map (λ row. map cell_text row.items) table.rows.items in
    let start = string_bytes c.new-text.result in
    let middle = string_bytes c.push_line.new.text in
    let new = string_bytes c.push_rows.new.text in
    let texts : map string_bytes c.deref-5.result.now ≡ titles = ap (map string_bytes) c.deref-5.ensures.value ∙ c.in_ok-titles.ensures ∙ ap titles_of c.deref.ensures.value in
    let line : AddsLine titles [] middle = subst (λ t. AddsLine titles t middle) c.new-text.ensures.bytes (subst (λ ts. AddsLine ts start middle) texts c.in_ok-push_line.ensures) in
    lines-cons titles rows [] middle new line c.in_ok-push_rows.ensures
