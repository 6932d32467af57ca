use Rattle.std.proofs.Common.{◌∙◌, ◌<◌, length, map, string_bytes, subst, sym}
use Rattle.show_compare.specs.Compare.{AreLosses, shown}
use Rattle.show_compare.proofs.PageLemmas.{losses_shown, some_from_test}
use Rattle.show_compare.proofs.page.losses_text.Goals as goal

pub returns : goal.returns
returns c =
    let t = c.args.is_throughput in
    let entries = c.args.entries.now in
    let groups = c.args.groups.now in
    let some : 0 < length groups = some_from_test groups (sym c.if-is_empty.false ∙ c.is_empty.ensures) in
    subst (AreLosses t (map shown entries) (map string_bytes groups)) (sym c.in_ok-text.ensures.ok)
    (losses_shown t entries groups (string_bytes c.in_ok-table.table) some c.in_ok-table.ensures)
