use Rattle.std.proofs.Common.{◌≡◌, ◌∙◌, ap, codes, string_bytes}
use Rattle.std.specs.List.{join_by}
use Rattle.std.proofs.lemmas.Result.{IfOk-weaker}
use Rattle.coterie_file.specs.Names.{name_at}
use Rattle.show_failures.specs.Names.{names_text}
use Rattle.show_failures.proofs.names.names_text.Goals as goal
use Rattle.numbers.proofs.Lists.{join_by-same}

pub returns : goal.returns
returns c =
    let names = c.args.named.now.names in
    let items = c.in_ok-names_of.field-0.items in
    IfOk-weaker c.join.result (λ t. string_bytes t ≡ join_by (λ n. n.now) (codes " ") c.deref.result.now) (λ t. string_bytes t ≡ names_text names c.args.voters.now)
    (λ t e. e ∙ ap (join_by (λ n. n.now) (codes " ")) c.deref.ensures.value ∙ join_by-same (λ n. n.now) (name_at names) (codes " ") items c.args.voters.now c.in_ok-names_of.ensures)
    c.join.ensures.ok
