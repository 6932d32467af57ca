use Rattle.std.proofs.Common.{◌≡◌, false, cond, sym, ap, ◌∙◌, arith, ◌++◌, ◌∷◌, [], map}
use Rattle.std.proofs.lemmas.Bool.{not-false, not-true}
use Rattle.std.specs.List.{list_any}
use Rattle.std.specs.Str.{bytes_eq}
use Rattle.coterie_file.proofs.NameLemmas.{seen_at, texts_before-push, repeat_here, repeat_later}
use Rattle.coterie_file.proofs.names.numbered.Goals as goal
use Rattle.numbers.proofs.Lists.{map-push}

pub returns-then-not-is_new : goal.returns-then-not-is_new
returns-then-not-is_new c =
    let names = c.args.names.now in
    let text = c.as_str.result.now in
    let there = seen_at names c.loop-i.i text c.loop-i.seen.keys c.loop-i.invariant.0 in
    sym c.loop-i.invariant.1 ∙ repeat_here names c.loop-i.i c.index-names-i.result text (omega arith) c.index-names-i.is c.as_str.ensures.value
    (sym there ∙ not-false _ (sym c.in_ok-is_new.ensures.added ∙ c.if-not-is_new.true))

pub loop-i-preserved : goal.loop-i-preserved
loop-i-preserved c =
    let names = c.args.names.now in
    let text = c.as_str.result.now in
    let i = c.loop-i.i in
    let name = c.index-names-i.result in
    let keys = c.loop-i.seen.keys in
    let none : list_any (λ k. bytes_eq text k.now) keys ≡ false = not-true _ (sym c.in_ok-is_new.ensures.added ∙ c.if-not-is_new.false) in
    let later = repeat_later names i name text (omega arith) c.index-names-i.is c.as_str.ensures.value (sym (seen_at names i text keys c.loop-i.invariant.0) ∙ none) in
    let grown = c.in_ok-is_new.ensures.keys ∙ ap (λ b. cond b keys (keys ++ c.as_str.result ∷ [])) none in (
      ap (map (λ k. k.now)) grown ∙ map-push (λ k. k.now) keys c.as_str.result ∙ ap (λ t. t ++ text ∷ []) c.loop-i.invariant.0
          ∙ texts_before-push names i name text (omega arith) c.index-names-i.is c.as_str.ensures.value,
      sym later ∙ c.loop-i.invariant.1,
    )
