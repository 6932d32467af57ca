use Rattle.std.proofs.Common.{◌∙◌, ap, ap₂, sym, arith, map, get_or, ◌++◌, ◌∷◌, [], take, decimal, string_bytes}
use Rattle.std.proofs.lemmas.List.{take_more}
use Rattle.coterie_file.proofs.writing.texts_of.Goals as goal
use Rattle.numbers.proofs.Lists.{map-push}

pub loop-number-preserved : goal.loop-number-preserved
loop-number-preserved c =
    let numbers = c.args.numbers.now in
    let i = c.loop-number.number-index in
    ap (map string_bytes) c.in_ok-push.ensures.items ∙ map-push string_bytes c.loop-number.texts.items c.in_ok-format.field-0
    ∙ ap₂ (λ xs x. xs ++ x ∷ []) c.loop-number.invariant c.in_ok-format.ensures.ok
    ∙ sym (ap (map decimal) (take_more numbers i 0 (omega arith)) ∙ map-push decimal (take i numbers) (get_or numbers i 0))
