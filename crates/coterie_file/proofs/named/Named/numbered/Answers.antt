use Rattle.std.proofs.Common.{◌∙◌, ap, ap₂, sym, arith, map, ◌++◌, ◌∷◌, [], length, string_bytes}
use Rattle.std.proofs.lemmas.List.{length-map}
use Rattle.coterie_file.proofs.NameLaws.{AreNames-numbered, length-numbered_names, numbered_names-push}
use Rattle.coterie_file.proofs.named.Named.numbered.Goals as goal
use Rattle.numbers.proofs.Lists.{map-push}

pub loop-i-preserved : goal.loop-i-preserved
loop-i-preserved c =
    let i = c.loop-i.i-counter in
    ap (map string_bytes) c.in_ok-push.ensures.items ∙ map-push string_bytes c.loop-i.names.items c.in_ok-format.field-0
    ∙ ap₂ (λ xs x. xs ++ x ∷ []) c.loop-i.invariant c.in_ok-format.ensures.ok ∙ sym (numbered_names-push i)

pub with_units-requires-clause-one_each : goal.with_units-requires-clause-one_each
with_units-requires-clause-one_each c =
    omega (arith, sym (length-map c.loop-i.names.items string_bytes) ∙ ap length c.loop-i.invariant ∙ length-numbered_names c.loop-i.i-counter)

pub with_units-requires-clause-names : goal.with_units-requires-clause-names
with_units-requires-clause-names c =
    let few = c.voters-i-end.ensures.coterie.few_voters in
    rw c.loop-i.invariant (AreNames-numbered c.loop-i.i-counter (omega arith))
