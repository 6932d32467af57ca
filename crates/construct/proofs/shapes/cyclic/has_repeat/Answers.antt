use Rattle.std.proofs.Common.{◌≡◌, ◌<◌, ◌+◌, ◌||◌, true, false, eqb, take, get_or, length, sym, ap, ap₂, ◌∙◌, arith}
use Rattle.std.specs.HashSet.{contains}
use Rattle.std.proofs.lemmas.Bool.{not-false, not-true}
use Rattle.std.proofs.lemmas.List.{take_more}
use Rattle.numbers.specs.Sets.{has}
use Rattle.construct.specs.Cyclic.{has_repeat}
use Rattle.construct.proofs.CyclicLemmas.{has_repeat-push, has_repeat-take, has-append_one}
use Rattle.construct.proofs.shapes.cyclic.has_repeat.Goals as goal

pub returns-then-not-branch : goal.returns-then-not-branch
returns-then-not-branch c =
    let base = c.args.base.now in
    let i = c.loop-x.x-index in
    let x = get_or base i 0 in
    let lt : i < length base = omega arith in
    let there : contains eqb c.loop-x.seen x ≡ true = not-false _ (sym c.in_ok-insert.ensures.added ∙ c.if-not-branch.true) in
    let repeated : has_repeat (take (i + 1) base) ≡ true =
    ap has_repeat (take_more base i 0 lt) ∙ has_repeat-push (take i base) x
    ∙ ap₂ (λ a b. a || b) c.loop-x.invariant.once (sym (c.loop-x.invariant.seen x) ∙ there) in
    sym (has_repeat-take (i + 1) base repeated)

pub loop-x-preserved : goal.loop-x-preserved
loop-x-preserved c =
    let base = c.args.base.now in
    let i = c.loop-x.x-index in
    let x = get_or base i 0 in
    let lt : i < length base = omega arith in
    let longer = take_more base i 0 lt in
    let new : contains eqb c.loop-x.seen x ≡ false = not-true _ (sym c.in_ok-insert.ensures.added ∙ c.if-not-branch.false) in
    record {
      seen = λ q. c.in_ok-insert.ensures.updates.0 q ∙ has-append_one (take i base) x q _ (c.loop-x.invariant.seen q) ∙ sym (ap (λ xs. has xs q) longer);
      once = ap has_repeat longer ∙ has_repeat-push (take i base) x
          ∙ ap₂ (λ a b. a || b) c.loop-x.invariant.once (sym (c.loop-x.invariant.seen x) ∙ new);
    }
