use Rattle.std.proofs.Common.{◌∙◌, ◌++◌, ◌∷◌, [], ap, ap₂, map, string_bytes, sym}
use Rattle.std.proofs.lemmas.List.{take_more}
use Rattle.std.proofs.lemmas.Option.{get_or_from_slice_get}
use Rattle.show_failures.proofs.NameLemmas.{below_names}
use Rattle.show_failures.proofs.without.voter_names.Goals as goal
use Rattle.numbers.proofs.Lists.{map-push}

pub loop-voter-preserved : goal.loop-voter-preserved
loop-voter-preserved c =
    let names = c.args.named.now.names in
    let k = c.loop-voter.voter in
    let lt = below_names c.args.named.now c.coterie.result.now k c.voters-voters.result c.name.ensures.named c.coterie.ensures.value c.voters-voters.ensures.value c.loop-voter-test.true in
    ap (map string_bytes) c.in_ok-push.ensures.items ∙ map-push string_bytes c.loop-voter.names.items c.in_ok-from_str.field-0
    ∙ ap₂ (λ xs x. xs ++ x ∷ []) c.loop-voter.invariant (c.in_ok-from_str.ensures.ok ∙ sym (get_or_from_slice_get names k c.name.result.now [] c.name.ensures.value))
    ∙ sym (take_more names k [] lt)
