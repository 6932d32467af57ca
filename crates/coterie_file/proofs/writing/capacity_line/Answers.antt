use Rattle.std.proofs.Common.{rules, ◌≡◌, ◌++◌, ◌∙◌, sym, ap, codes, decimal, IfOk, string_bytes}
use Rattle.std.specs.List.{join_by}
use Rattle.coterie_file.proofs.writing.capacity_line.Goals as goal
use Rattle.numbers.proofs.Lists.{join_by-same}

pub returns : goal.returns
returns c =
    let capacities = c.args.capacities.now in
    let list : string_bytes c.in_ok-list.list ≡ join_by decimal (codes ", ") capacities =
    c.in_ok-list.ensures.ok ∙ ap (join_by string_bytes (codes ", ")) c.deref.ensures.value
    ∙ join_by-same string_bytes decimal (codes ", ") c.in_ok-texts_of.field-0.items capacities c.in_ok-texts_of.ensures in
    let written : IfOk c.format.result (λ t. string_bytes t ≡ codes "\ncapacity = [" ++ (string_bytes c.in_ok-list.list ++ codes "]")) = search rules in
    rw (sym c.are_unit.ensures ∙ c.if-are_unit.false, ← list) written
