use Rattle.std.proofs.Common.{◌<◌, ℕ, List, map, length, refl, subst, sym, arith, Bor}
use Rattle.std.proofs.lemmas.List.{length-map}
use Rattle.command_line.specs.Words.{IsNumber}
use Rattle.command_line.proofs.WordLemmas.{AreSizes-more, AreSizes-at}
use Rattle.command_line.proofs.words.sizes_of.Goals as goal

pub loop-i-preserved : goal.loop-i-preserved
loop-i-preserved c =
    let texts = map (λ t. t.now) c.args.texts.now in
    let lt : c.loop-i.i < length texts = omega (arith, length-map {A = Bor (List ℕ)} {B = List ℕ} c.args.texts.now (λ t. t.now)) in
    let number = subst (λ t. IsNumber t c.in-Some.size) c.text_at.ensures c.in-Some.ensures.some.0 in
    let pushed = c.in_ok-push.ensures.items in
    AreSizes-more texts c.loop-i.sizes.items c.push.new.self.items c.loop-i.i c.in-Some.size lt c.loop-i.invariant number c.in-Some.ensures.some.1 pushed

pub returns-in_default-clause-none : goal.returns-in_default-clause-none
returns-in_default-clause-none c = λ _ sizes are.
    let texts = map (λ t. t.now) c.args.texts.now in
    let lt : c.loop-i.i < length texts = omega (arith, length-map {A = Bor (List ℕ)} {B = List ℕ} c.args.texts.now (λ t. t.now)) in
    let sized = AreSizes-at texts sizes c.loop-i.i lt are in
    c.in_default.ensures.none refl sized.0 (subst (λ t. IsNumber t sized.0) (sym c.text_at.ensures) sized.1) sized.2
