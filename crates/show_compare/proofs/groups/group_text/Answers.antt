use Rattle.std.proofs.Common.{◌≡◌, ◌∙◌, ap, codes, string_bytes}
use Rattle.std.specs.List.{join_by}
use Rattle.std.specs.Prelude.{slice_index_or}
use Rattle.std.proofs.lemmas.Result.{IfOk-weaker}
use Rattle.numbers.proofs.Lists.{join_by-same}
use Rattle.show_compare.specs.Compare.{group_text}
use Rattle.show_compare.proofs.groups.group_text.Goals as goal

pub returns : goal.returns
returns c =
    let names = c.args.named.now.names in
    let items = c.in_ok-names_of.field-0.items in
    IfOk-weaker c.join.result (λ t. string_bytes t ≡ join_by (λ n. n.now) (codes " ") c.deref.result.now) (λ t. string_bytes t ≡ group_text c.args.named.now c.args.group.now)
    (λ t e. e ∙ ap (join_by (λ n. n.now) (codes " ")) c.deref.ensures.value ∙ join_by-same (λ n. n.now) (λ i. slice_index_or names i (codes "?")) (codes " ") items c.args.group.now c.in_ok-names_of.ensures)
    c.join.ensures.ok
