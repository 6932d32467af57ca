use Rattle.std.proofs.Common.{rules, ap, ◌∙◌, arith}
use Rattle.std.specs.Prelude.{FitsSigned}
use Rattle.std.specs.Int.{w64}
use Rattle.std.specs.Option.{ok_or}
use Rattle.std.proofs.lemmas.Int.{to_z-of_z}
use Rattle.coterie_file.specs.Lists.{or_zero}
use Rattle.coterie_file.specs.declared.fault.FileFault.TheVariants.{Keys}
use Rattle.coterie_file.proofs.TableLemmas.{numbers_of-more, numbers_of-other, numbers_of-end}
use Rattle.coterie_file.proofs.lists.numbers_of.Goals as goal

pub loop-value-preserved : goal.loop-value-preserved
loop-value-preserved c =
    let fits : FitsSigned w64 c.in-Some.integer = search rules in
    numbers_of-more c.args.values.now c.loop-value.value-index c.value-item.result c.in-Some.integer c.loop-value.numbers.items _ c.or_zero.result _ (omega arith) c.value-item.is c.in-Some.ensures
    c.in_ok-push.ensures.items (c.or_zero.ensures ∙ ap or_zero (to_z-of_z w64 c.in-Some.integer fits)) c.loop-value.invariant

pub returns-in_default : goal.returns-in_default
returns-in_default c = ap (λ o. ok_or o Keys)
    (numbers_of-other c.args.values.now c.loop-value.value-index c.value-item.result c.loop-value.numbers.items _ (omega arith) c.value-item.is c.in_default.ensures c.loop-value.invariant)

pub returns : goal.returns
returns c = ap (λ o. ok_or o Keys) (numbers_of-end c.args.values.now c.loop-value.value-index c.loop-value.numbers.items _ (omega arith) c.loop-value.invariant)
