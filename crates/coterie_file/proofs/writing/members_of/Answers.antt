use Rattle.std.proofs.Common.{◌∙◌, ap, ap₂, sym, arith, map, get_or, ◌++◌, ◌∷◌, [], take, slice_get}
use Rattle.std.proofs.lemmas.List.{take_more}
use Rattle.coterie_file.specs.Names.{name_at}
use Rattle.coterie_file.proofs.WritingLemmas.{name_at-found}
use Rattle.coterie_file.proofs.writing.members_of.Goals as goal
use Rattle.numbers.proofs.Lists.{map-push}

pub loop-i-preserved : goal.loop-i-preserved
loop-i-preserved c =
    let names = c.args.named.now.names in
    let items = c.as_slice-i-items.result.now in
    let i = c.loop-i.i-index in
    let at = name_at-found names (get_or items i 0) c.name.result.now (ap (slice_get names) (sym c.from.ensures) ∙ c.name.ensures.value) in
    ap (map (λ n. n.now)) c.in_ok-push.ensures.items ∙ map-push (λ n. n.now) c.loop-i.names.items c.name.result
    ∙ ap₂ (λ xs x. xs ++ x ∷ []) c.loop-i.invariant (sym at)
    ∙ sym (ap (map (name_at names)) (take_more items i 0 (omega arith)) ∙ map-push (name_at names) (take i items) (get_or items i 0))
