use Rattle.std.proofs.Common.{rules, ◌≡◌, ◌++◌, ◌∙◌, ℕ, List, [], sym, ap, subst, codes, map, get_or, slice_get, IfOk, string_bytes}
use Rattle.std.proofs.lemmas.Option.{get_or_from_slice_get}
use Rattle.coterie_file.specs.Names.{name_at}
use Rattle.coterie_file.specs.Writing.{name_list}
use Rattle.coterie_file.proofs.writing.line_of.Goals as goal

pub returns : goal.returns
returns c =
    let names = c.args.named.now.names in
    let quorums = c.args.named.now.system.quorums in
    let written : IfOk c.format.result (λ t. string_bytes t ≡ codes "  " ++ (string_bytes c.in_ok-list.list ++ codes ",\n")) = search rules in
    let members_are = get_or_from_slice_get quorums c.args.j c.quorum.result.now [] (ap (λ s. slice_get s.quorums c.args.j) (sym c.coterie.ensures.value) ∙ c.quorum.ensures.value) in
    let list : string_bytes c.in_ok-list.list ≡ name_list (map (name_at names) (get_or quorums c.args.j [])) =
    c.in_ok-list.ensures ∙ ap name_list (ap (map (λ n. n.now)) c.deref.ensures.value ∙ c.in_ok-names.ensures ∙ ap (map (name_at names)) (sym members_are)) in
    subst (λ (x : List ℕ). IfOk c.format.result (λ t. string_bytes t ≡ codes "  " ++ (x ++ codes ",\n"))) list written
