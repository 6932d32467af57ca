use Rattle.std.proofs.Common.{rules, ◌≡◌, ◌++◌, codes, IfOk, string_bytes}
use Rattle.coterie_file.proofs.WritingLemmas.{name_list-joined}
use Rattle.coterie_file.proofs.writing.list_of.Goals as goal

pub returns : goal.returns
returns g c =
    let written : IfOk c.format.result (λ t. string_bytes t ≡ codes "[\"" ++ (string_bytes c.in_ok-names.names ++ codes "\"]")) = search rules in
    rw (← name_list-joined g.S.AsStr.text c.args.names.now c.requires) (rw (← c.in_ok-names.ensures.ok) written)
